-- The item that is to blame for a fault of a model.
use Rattle.std.proofs.Common.{◌≡◌, ◌≢◌, inl, inr, ℕ, ◌+◌, ◌<◌, List, [], ◌∷◌, ◌++◌, length, get_or, append_assoc, true, false, Bool, refl, ap, sym, subst, ◌∙◌, arith}
use Rattle.std.specs.Prelude.{Option, Some, None, Result, Ok, Err, IfOk, MatchOption}
use Rattle.std.proofs.lemmas.Bool.{cases_lt}
use Rattle.std.proofs.lemmas.List.{get_or_default}
use Rattle.cat_tree.specs.Tree.{Word, File, Clause}
use Rattle.cat_model.specs.Faults.{IsCause}
use Rattle.cat_model.specs.Files.{store, place_of, entry_of, version_of}
use Rattle.cat_model.specs.declared.fault.ModelFault.{ModelFault}
use Rattle.cat_model.specs.declared.fault.ModelFault.TheVariants.{NoCat, NoInclude, IncludeCycle, Unbound, WrongSort, NotMonotone, FlagWithoutName, ModelTooLarge, CallsTooLarge, NoMemory}
use Rattle.cat_model.specs.declared.files.Entry.{Entry}
use Rattle.cat_places.specs.Blame.{item_of, put_as, items_put, stops, NoneStops, IsFirstStop, main, alone, IsBroken, NoneBroken, IsFirstBroken, IsBlamed}
use Rattle.cat_places.specs.declared.walk.Turn.TheVariants.{Own}
use Rattle.cat_places.specs.declared.walk.Visit.{Visit}

-- what is read of visits past their end
abbrev pub no_visit : Visit
no_visit = record { source = 0; item = 0; turn = Own }

-- no name has a version before the first put
pub fresh : (x : Word) (es : List Entry) → es ≡ [] → version_of x es < 1
unfolding entry_of
fresh x es e = let none : version_of x [] ≡ 0 = refl in subst (λ l. version_of x l < 1) (sym e) (omega (arith, none))

pub stored_alone : (x : Word) (is : List Clause) (es : List Entry) → x ≡ main → es ≡ [] →
    store (record { name = x; version = 1; file = Some (record { title = None; items = is }) }) es ≡ alone is
unfolding place_of
stored_alone x is es e f = ap (store (record { name = x; version = 1; file = Some (record { title = None; items = is }) })) f ∙ ap (λ y. record { name = y; version = 1; file = Some (record { title = None; items = is }) } ∷ []) e

pub moved : (e : ModelFault) (es fs : List Entry) (x y : Word) → es ≡ fs → x ≡ y → IsCause e es x → IsCause e fs y
moved e es fs x y l n h = subst (λ z. IsCause e fs z) n (subst (λ k. IsCause e k x) l h)

-- one that is stopped at is the first

order : (k m : ℕ) → (k < m → ⊥) → (m < k → ⊥) → k ≡ m
order k m a b = elim (cases_lt k m) [ inl h ↦ absurd (a h) | inr h ↦ elim (cases_lt m k) [ inl g ↦ absurd (b g) | inr g ↦ omega (arith, h, g) ] ]

contrary : (b : Bool) → b ≡ true → b ≡ false → ⊥
contrary b h k = let both : true ≡ false = sym h ∙ k in cc

none_there : (fs : List File) (e : ModelFault) (vs : List Visit) (k n : ℕ) → NoneStops fs e vs n → k < n → IsFirstStop fs e vs k → ⊥
none_there fs e [] k n none low h = absurd (omega (arith, h.within))
none_there fs e (v ∷ vs) k n none low h = contrary (stops fs e k (get_or (v ∷ vs) k v)) (h.stops v) (none k v low)

one_stop : (fs : List File) (e : ModelFault) (vs : List Visit) (k m : ℕ) → IsFirstStop fs e vs k → IsFirstStop fs e vs m → k ≡ m
one_stop fs e vs k m h g = order k m (λ low. none_there fs e vs k m g.first low h) (λ low. none_there fs e vs m k h.first low g)

stop_is : (fs : List File) (e : ModelFault) (vs : List Visit) (o : Option ℕ) (k : ℕ) → MatchOption o (NoneStops fs e vs (length vs)) (IsFirstStop fs e vs) → IsFirstStop fs e vs k → o ≡ Some k
stop_is fs e vs None k none h = absurd (none_there fs e vs k (length vs) none h.within h)
stop_is fs e vs (Some m) k first h = ap Some (one_stop fs e vs m k first h)

-- nor does one visit more
pub none_stops_more : (fs : List File) (e : ModelFault) (vs : List Visit) (n : ℕ) (u : Visit) → n < length vs → stops fs e n (get_or vs n u) ≡ false → NoneStops fs e vs n → NoneStops fs e vs (n + 1)
none_stops_more fs e vs n u inside not none j d low = elim (cases_lt j n) [
  | inl h ↦ none j d h
  | inr h ↦ subst (λ k. stops fs e k (get_or vs k d) ≡ false) (let same : n ≡ j = omega (arith, low, h) in same) (ap (stops fs e n) (get_or_default vs n d u inside) ∙ not)
]

-- one with which a rule is broken is the first

one_broken : (fs : List File) (e f : ModelFault) (vs : List Visit) (k m : ℕ) → IsFirstBroken fs e vs k → IsFirstBroken fs f vs m → k ≡ m
one_broken fs e f vs k m h g = order k m (λ low. g.first k low e h.broken) (λ low. h.first m low f g.broken)

broken_is : (fs : List File) (e : ModelFault) (vs : List Visit) (o : Option ℕ) (k : ℕ) → MatchOption o (NoneBroken fs vs (length vs)) (λ m. (f : ModelFault) × IsFirstBroken fs f vs m) → IsFirstBroken fs e vs k → o ≡ Some k
broken_is fs e vs None k none h = absurd (none k h.within e h.broken)
broken_is fs e vs (Some m) k first h = ap Some (one_broken fs first.0 e vs m k first.1 h)

-- a fault that stops reading, and one that doesn't

pub blamed_stop : (fs : List File) (e : ModelFault) (vs : List Visit) (o : Option ℕ) → MatchOption o (NoneStops fs e vs (length vs)) (IsFirstStop fs e vs) → (k : ℕ) → IsFirstStop fs e vs k → o ≡ Some k
blamed_stop fs e vs o h k g = stop_is fs e vs o k h g

pub blamed_broken : (fs : List File) (e : ModelFault) (vs : List Visit) (o : Option ℕ) → ((x : Word) → e ≢ NoInclude x) → ((x : Word) → e ≢ IncludeCycle x) → e ≢ ModelTooLarge →
    MatchOption o (NoneBroken fs vs (length vs)) (λ m. (f : ModelFault) × IsFirstBroken fs f vs m) → (k : ℕ) → IsBlamed fs e vs k → o ≡ Some k
blamed_broken fs (NoCat x) vs o a b c h k g = absurd g
blamed_broken fs NoMemory vs o a b c h k g = absurd g
blamed_broken fs (NoInclude x) vs o a b c h k g = absurd (a x refl)
blamed_broken fs (IncludeCycle x) vs o a b c h k g = absurd (b x refl)
blamed_broken fs ModelTooLarge vs o a b c h k g = absurd (c refl)
blamed_broken fs (Unbound x) vs o a b c h k g = broken_is fs (Unbound x) vs o k h g
blamed_broken fs (WrongSort x) vs o a b c h k g = broken_is fs (WrongSort x) vs o k h g
blamed_broken fs (NotMonotone x) vs o a b c h k g = broken_is fs (NotMonotone x) vs o k h g
blamed_broken fs FlagWithoutName vs o a b c h k g = broken_is fs FlagWithoutName vs o k h g
blamed_broken fs (CallsTooLarge x) vs o a b c h k g = broken_is fs (CallsTooLarge x) vs o k h g

pub blamed_broken_result : {E : Type 0} (fs : List File) (e : ModelFault) (vs : List Visit) (r : Result (Option ℕ) E) → ((x : Word) → e ≢ NoInclude x) → ((x : Word) → e ≢ IncludeCycle x) → e ≢ ModelTooLarge →
    IfOk r (λ o. MatchOption o (NoneBroken fs vs (length vs)) (λ m. (f : ModelFault) × IsFirstBroken fs f vs m)) → IfOk r (λ o. (k : ℕ) → IsBlamed fs e vs k → o ≡ Some k)
blamed_broken_result fs e vs (Ok o) a b c h = blamed_broken fs e vs o a b c h
blamed_broken_result fs e vs (Err x) a b c h = tt

-- with one item more no rule is broken either
pub broken_more : (fs : List File) (vs : List Visit) (n : ℕ) → NoneBroken fs vs n → ((e : ModelFault) → ¬ IsBroken fs vs (n + 1) e) → NoneBroken fs vs (n + 1)
broken_more fs vs n before here j low e h = elim (cases_lt j n) [ inl g ↦ before j g e h | inr g ↦ here e (subst (λ m. IsBroken fs vs (m + 1) e) (omega (arith, low, g)) h) ]

-- what one visit more puts
pub put_more : (fs : List File) (vs ws : List Visit) (v : Visit) (old new whole : List Clause) → vs ≡ v ∷ ws → new ≡ old ++ put_as v.turn (item_of fs v) → old ++ items_put fs vs ≡ whole → new ++ items_put fs ws ≡ whole
put_more fs vs ws v old new whole here n before = ap (λ l. l ++ items_put fs ws) n ∙ append_assoc old (put_as v.turn (item_of fs v)) (items_put fs ws) ∙ sym (ap (λ l. old ++ items_put fs l) here) ∙ before
