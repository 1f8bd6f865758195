-- What is read is in the grammar.
use Rattle.std.proofs.Common.{◌≡◌, ℕ, suc, List, [], ◌∷◌, ◌⊎◌, inl, inr, refl, subst, sym, ap, ◌∙◌, length}
use Rattle.std.specs.Prelude.{◌++◌, false, Ok, Err, if◌then◌else◌, codes}
use Rattle.std.specs.Fmt.{decimal}
use Rattle.std.specs.Str.{bytes_eq}
use Rattle.std.proofs.lemmas.Bool.{or_parts}
use Rattle.descent.specs.Reading.{◌>>=◌}
use Rattle.descent.proofs.Tools.{bind_ok, cases_of, none_or_some, moved, chosen}
use Rattle.descent.proofs.Turns.{repeated-keeps}
use Rattle.conditions.specs.declared.place.Binding.{Binding}
use Rattle.conditions.specs.declared.place.Place.{Place}
use Rattle.conditions.specs.declared.place.Place.TheVariants.{Reg, Loc}
use Rattle.litmus_syntax.specs.declared.symbol.Symbol.{Symbol}
use Rattle.litmus_syntax.specs.declared.symbol.Symbol.TheVariants.{Fixed, Name, Number, Word as head_word}
use Rattle.litmus_syntax.specs.declared.symbol.Terminal.{Terminal}
use Rattle.litmus_syntax.specs.declared.symbol.Terminal.TheVariants.{Int, AtomicInt, Volatile, LeftParen, RightParen, LeftBrace, RightBrace, Semicolon, Comma, Assign, Star}
use Rattle.litmus_tree.specs.declared.tree.LocationKind.{LocationKind}
use Rattle.litmus_tree.specs.declared.tree.Parameter.{Parameter}
use Rattle.litmus_syntax.specs.Drafts.{Written, is_parameter}
use Rattle.litmus_syntax.specs.Grammar.{IsLocation, IsPlace, place_register, place_location, type_int, type_atomic, IsUntyped, untyped_zero, untyped_value, IsEntry, entry_untyped, entry_typed, IsEntries, entries_none, entries_one, entries_empty, entries_more, HasKind, kind_atomic, kind_plain, IsParameter, parameter_typed, parameter_volatile, IsNew, IsParameters, parameters_one, parameters_more as parameters_and, IsParameterList, list_none, list_some, IsThread, thread_body, IsThreads, threads_one, threads_more as threads_and, IsCondition, IsWritten, written}
use Rattle.litmus_syntax.specs.Reading.{Reading, syntax, after, expected, name_at, number_at, before_name, open_at, place_at, bare, bound_at, behind_type, entry_at, ends_entry, entry_behind, entries_at, kind_at, behind_volatile, parameter_behind, parameters_more, parameters_at, parameters_closed, parameter_list_at, steps_at, names_thread, thread_name_at, thread_at, threads_more, threads_at, listed_at, condition_at, word_at, language_at, end_at, initial_at, test_at}
use Rattle.litmus_tree.specs.Tree.{Word}
use Rattle.litmus_syntax.proofs.Places.{place-sound, listed-sound}
use Rattle.litmus_syntax.proofs.Propositions.{condition-sound}
use Rattle.litmus_syntax.proofs.Sounds.{Sound}
use Rattle.litmus_syntax.proofs.Statements.{steps_are}
use Rattle.litmus_syntax.proofs.SingleSymbols.{bytes_eq-true, bytes_eq-false, after-some, expected-ok, name-ok, number-ok, word-ok, before_name-same, open-ok}

-- The initial state.

location-of : {ts rest : List Symbol} {p : Place} → IsPlace ts rest p → (x : Word) → p ≡ Loc x → IsLocation ts rest x
location-of place_register x e = absurd (cc)
location-of (place_location {ts} {rest} {x = y} d) x e =
    let same : y ≡ x = cc in
    subst (λ w. IsLocation ts rest w) same d

bare-sound : (ts us rest : List Symbol) (p : Place) (b : Binding) → IsPlace ts us p → bare p us ≡ Ok (b, rest) → IsUntyped ts rest b
unfolding bare
bare-sound ts us rest (Loc x) b d e = moved (λ l t. IsUntyped ts l t) e (untyped_zero (location-of d x refl))
bare-sound ts us rest (Reg k x) b d e = absurd (cc)

bound-sound : (ts us rest : List Symbol) (p : Place) (b : Binding) → IsPlace ts us p → bound_at p us ≡ Ok (b, rest) → IsUntyped ts rest b
unfolding bound_at
bound-sound ts us rest p b d e =
    elim (cases_of (after Assign us) _ _ _ e) [
      | inl g ↦ bare-sound ts us rest p b d g.1
      | inr (y, was, g) ↦
          let v = bind_ok (number_at y.1) _ _ g in
          let a : us ≡ Fixed Assign ∷ y.1 = after-some Assign us y.1 y.0 was in
          let c : y.1 ≡ Number v.0.0 ∷ v.0.1 = number-ok y.1 v.0.1 v.0.0 v.1 in
          let same : us ≡ Fixed Assign ∷ Number v.0.0 ∷ v.0.1 = cc in
          moved (λ l t. IsUntyped ts l t) v.2 (untyped_value (subst (λ l. IsPlace ts l p) same d))
    ]

typed : (ts rest : List Symbol) (b : Binding) → IsUntyped (behind_type ts) rest b → IsEntry ts rest b
unfolding behind_type
typed ts rest b d =
    elim (none_or_some (after Int ts)) [
      | inl g ↦ elim (none_or_some (after AtomicInt ts)) [
        | inl h ↦
            let same : behind_type ts ≡ ts = rw (g, h) in
            entry_untyped (subst (λ l. IsUntyped l rest b) same d)
        | inr (y, was) ↦
            let same : behind_type ts ≡ y.1 = rw (g, was) in
            subst (λ l. IsEntry l rest b) (sym (after-some AtomicInt ts y.1 y.0 was)) (entry_typed type_atomic (subst (λ l. IsUntyped l rest b) same d))
      ]
      | inr (y, was) ↦
          let same : behind_type ts ≡ y.1 = rw was in
          subst (λ l. IsEntry l rest b) (sym (after-some Int ts y.1 y.0 was)) (entry_typed type_int (subst (λ l. IsUntyped l rest b) same d))
    ]

entry-sound : Sound entry_at IsEntry
unfolding entry_at
entry-sound ts rest b e =
    let p = bind_ok (place_at (behind_type ts)) _ _ e in
    typed ts rest b (bound-sound (behind_type ts) p.0.1 rest p.0.0 b (place-sound (behind_type ts) p.0.1 p.0.0 p.1) p.2)

-- nothing, or one more entry
pub entry_behind-sound : (bs cs : List Binding) (ts rest : List Symbol) → entry_behind bs ts ≡ Ok (cs, rest) →
    ((rest ≡ ts) × (cs ≡ bs)) ⊎ ((b : Binding) × IsEntry ts rest b × (cs ≡ bs ++ b ∷ []))
unfolding entry_behind
entry_behind-sound bs cs ts rest e =
    elim (chosen (ends_entry ts) _ _ _ e) [
      | inl g ↦ inl (moved (λ l t. (l ≡ ts) × (t ≡ bs)) g.1 (refl, refl))
      | inr g ↦
          let x = bind_ok (entry_at ts) _ _ g.1 in
          inr (moved (λ l t. (b : Binding) × IsEntry ts l b × (t ≡ bs ++ b ∷ [])) x.2 (x.0.0, entry-sound ts x.0.1 x.0.0 x.1, refl))
    ]

pub entries-sound : Sound entries_at IsEntries
unfolding entries_at
entries-sound ts rest cs e =
    let x = bind_ok (entry_behind [] ts) _ _ e in
    repeated-keeps (syntax 0) (after Semicolon) (λ _ bs us. entry_behind bs us) (λ l t. IsEntries ts l t)
    (λ o us mid back a b d was f.
    let same : us ≡ Fixed Semicolon ∷ mid = after-some Semicolon us mid o was in
    let past : IsEntries ts (Fixed Semicolon ∷ mid) a = subst (λ l. IsEntries ts l a) same d in
    elim (entry_behind-sound a b mid back f) [
      | inl (s, t) ↦ rw (s, t) (entries_empty past)
      | inr (c, g, t) ↦ rw t (entries_more past g)
    ])
    x.0.0 x.0.1 cs rest
    (elim (entry_behind-sound [] x.0.0 ts x.0.1 x.1) [
      | inl (s, t) ↦ rw (s, t) entries_none
      | inr (c, g, t) ↦ rw t (entries_one g)
    ])
    x.2

-- Parameters.

new : (ps : List Parameter) (p : Parameter) → is_parameter ps p.name ≡ false → IsNew p ps
new [] p e q h = absurd h
new (r ∷ ps) p e q h =
    let both = or_parts (bytes_eq r.name p.name) (is_parameter ps p.name) e in
    elim h [
      | inl s ↦ rw s (bytes_eq-false r.name p.name both.0)
      | inr m ↦ new ps p both.1 q m
    ]

kind-sound : (ts rest : List Symbol) (k : LocationKind) → kind_at ts ≡ Ok (k, rest) → (t : Terminal) × (ts ≡ Fixed t ∷ rest) × HasKind t k
unfolding kind_at
kind-sound ts rest k e =
    elim (cases_of (after AtomicInt ts) _ _ _ e) [
      | inl g ↦
          let y = bind_ok (expected Int ts) _ _ g.1 in
          moved (λ l q. (t : Terminal) × (ts ≡ Fixed t ∷ l) × HasKind t q) y.2 (Int, expected-ok Int ts y.0.1 y.0.0 y.1, kind_plain)
      | inr (y, was, g) ↦ moved (λ l q. (t : Terminal) × (ts ≡ Fixed t ∷ l) × HasKind t q) g (AtomicInt, after-some AtomicInt ts y.1 y.0 was, kind_atomic)
    ]

-- with or without the word volatile
volatile-sound : (ts us rest : List Symbol) (t : Terminal) (k : LocationKind) (x : Word) → HasKind t k → behind_volatile ts ≡ us → us ≡ Fixed t ∷ Fixed Star ∷ Name x ∷ rest →
    IsParameter ts rest (record { name = x; kind = k })
unfolding behind_volatile
volatile-sound ts us rest t k x d e same =
    elim (none_or_some (after Volatile ts)) [
      | inl g ↦
          let plain : behind_volatile ts ≡ ts = rw g in
          subst (λ l. IsParameter l rest (record { name = x; kind = k })) (sym (sym plain ∙ e ∙ same)) (parameter_typed d)
      | inr (y, was) ↦
          let behind : behind_volatile ts ≡ y.1 = rw was in
          let front : ts ≡ Fixed Volatile ∷ Fixed t ∷ Fixed Star ∷ Name x ∷ rest = after-some Volatile ts y.1 y.0 was ∙ ap (λ l. Fixed Volatile ∷ l) (sym behind ∙ e ∙ same) in
          subst (λ l. IsParameter l rest (record { name = x; kind = k })) (sym front) (parameter_volatile d)
    ]

pub parameter-sound : (ps : List Parameter) (p : Parameter) (ts rest : List Symbol) → parameter_behind ps ts ≡ Ok (p, rest) → IsParameter ts rest p × IsNew p ps
unfolding parameter_behind
parameter-sound ps p ts rest e =
    let k = bind_ok (kind_at (behind_volatile ts)) _ _ e in
    let z = bind_ok (expected Star k.0.1) _ _ k.2 in
    let x = bind_ok (name_at z.0.1) _ _ z.2 in
    let t = kind-sound (behind_volatile ts) k.0.1 k.0.0 k.1 in
    let a : behind_volatile ts ≡ Fixed t.0 ∷ k.0.1 = t.1 in
    let b : k.0.1 ≡ Fixed Star ∷ z.0.1 = expected-ok Star k.0.1 z.0.1 z.0.0 z.1 in
    let c : z.0.1 ≡ Name x.0.0 ∷ x.0.1 = name-ok z.0.1 x.0.1 x.0.0 x.1 in
    let same : behind_volatile ts ≡ Fixed t.0 ∷ Fixed Star ∷ Name x.0.0 ∷ x.0.1 = cc in
    elim (chosen (is_parameter ps x.0.0) _ _ _ x.2) [
      | inl g ↦ let h = g.1 in absurd (cc)
      | inr g ↦ moved (λ l t. IsParameter ts l t × IsNew t ps) g.1 (
        volatile-sound ts (behind_volatile ts) x.0.1 t.0 k.0.0 x.0.0 t.2 refl same,
        new ps (record { name = x.0.0; kind = k.0.0 }) g.0,
      )
    ]

parameters-sound : Sound parameters_at IsParameters
unfolding parameters_at parameters_more
parameters-sound ts rest ps e =
    let x = bind_ok (parameter_behind [] ts >>= λ x. Ok ([] ++ x.0 ∷ [], x.1)) _ _ e in
    let p = bind_ok (parameter_behind [] ts) _ _ x.1 in
    repeated-keeps (syntax 0) (after Comma) (λ _ qs us. parameters_more qs us) (λ l t. IsParameters ts l t)
    (λ o us mid back a b d was f.
    let q = bind_ok (parameter_behind a mid) _ _ f in
    let s = parameter-sound a q.0.0 mid q.0.1 q.1 in
    moved (λ l t. IsParameters ts l t) q.2 (parameters_and (subst (λ l. IsParameters ts l a) (after-some Comma us mid o was) d) s.0 s.1))
    x.0.0 x.0.1 ps rest
    (moved (λ l t. IsParameters ts l t) p.2 (parameters_one (parameter-sound [] p.0.0 ts p.0.1 p.1).0))
    x.2

pub parameter_list-sound : (n : ℕ) → Sound (parameter_list_at n) (IsParameterList n)
unfolding parameter_list_at parameters_closed
parameter_list-sound n ts rest ps e =
    let m = bind_ok (open_at n ts) _ _ e in
    let o = open-ok n m.0.0 ts m.0.1 m.1 in
    let P : ℕ → List Symbol → Type 0 = λ k l. IsParameterList k l rest ps in
    let inside : IsParameterList (suc m.0.0) (Fixed LeftParen ∷ m.0.1) rest ps = elim (cases_of (after RightParen m.0.1) _ _ _ m.2) [
      | inl g ↦
          let x = bind_ok (parameters_at m.0.1) _ _ g.1 in
          let y = bind_ok (expected RightParen x.0.1) _ _ x.2 in
          moved (λ l t. IsParameterList (suc m.0.0) (Fixed LeftParen ∷ m.0.1) l t) y.2 (list_some
          (subst (λ l. IsParameters m.0.1 l x.0.0) (expected-ok RightParen x.0.1 y.0.1 y.0.0 y.1) (parameters-sound m.0.1 x.0.1 x.0.0 x.1)))
      | inr (y, was, g) ↦
          moved (λ l t. IsParameterList (suc m.0.0) (Fixed LeftParen ∷ m.0.1) l t) g
          (subst (λ l. IsParameterList (suc m.0.0) (Fixed LeftParen ∷ l) y.1 []) (sym (after-some RightParen m.0.1 y.1 y.0 was)) list_none)
    ] in
    subst (λ k. P k ts) (sym o.0) (subst (λ l. P (suc m.0.0) l) (sym o.1) inside)

-- Threads.

pub thread-sound : (n k : ℕ) → Sound (thread_at n k) (IsThread n k)
unfolding thread_at thread_name_at
thread-sound n k ts rest b e =
    let y = bind_ok (name_at ts >>= λ x. if names_thread x.0 k then Ok (tt, x.1) else Err (syntax (length ts))) _ _ e in
    let x = bind_ok (name_at ts) _ _ y.1 in
    let ps = bind_ok (parameter_list_at n y.0.1) _ _ y.2 in
    let z = bind_ok (expected LeftBrace ps.0.1) _ _ ps.2 in
    let ss = bind_ok (steps_at n z.0.1) _ _ z.2 in
    elim (chosen (names_thread x.0.0 k) _ _ _ x.2) [
      | inl g ↦
          let named : x.0.0 ≡ codes "P" ++ decimal k = bytes_eq-true x.0.0 (codes "P" ++ decimal k) g.0 in
          let head : ts ≡ Name (codes "P" ++ decimal k) ∷ y.0.1 = name-ok ts x.0.1 x.0.0 x.1 ∙ ap (λ w. Name w ∷ x.0.1) named ∙ ap (λ l. Name (codes "P" ++ decimal k) ∷ l) (moved (λ l t. x.0.1 ≡ l) g.1 refl) in
          moved (λ l t. IsThread n k ts l t) ss.2 (subst (λ l. IsThread n k l ss.0.1 (record { parameters = ps.0.0; steps = ss.0.0 })) (sym head)
          (thread_body (subst (λ l. IsParameterList n y.0.1 l ps.0.0) (expected-ok LeftBrace ps.0.1 z.0.1 z.0.0 z.1) (parameter_list-sound n y.0.1 ps.0.1 ps.0.0 ps.1)) (steps_are n z.0.1 ss.0.1 ss.0.0 ss.1)))
      | inr g ↦ let h = g.1 in absurd (cc)
    ]

pub threads-sound : (n : ℕ) → Sound (threads_at n) (IsThreads n)
unfolding threads_at threads_more
threads-sound n ts rest bs e =
    let x = bind_ok (thread_at n 0 ts >>= λ b. Ok ([] ++ b.0 ∷ [], b.1)) _ _ e in
    let p = bind_ok (thread_at n 0 ts) _ _ x.1 in
    repeated-keeps (syntax 0) before_name (threads_more n) (λ l t. IsThreads n ts l t)
    (λ o us mid back a b d was f.
    let q = bind_ok (thread_at n (length a) mid) _ _ f in
    moved (λ l t. IsThreads n ts l t) q.2 (threads_and d (subst (λ l. IsThread n (length a) l q.0.1 q.0.0) (before_name-same us mid o was) (thread-sound n (length a) mid q.0.1 q.0.0 q.1))))
    x.0.0 x.0.1 bs rest
    (moved (λ l t. IsThreads n ts l t) p.2 (threads_one (thread-sound n 0 ts p.0.1 p.0.0 p.1)))
    x.2

-- Tests.

end-ok : (ts rest : List Symbol) (u : Unit {0}) → end_at ts ≡ Ok (u, rest) → (ts ≡ []) × (rest ≡ [])
unfolding end_at
end-ok [] rest u e = (refl, moved (λ l t. l ≡ []) e refl)
end-ok (s ∷ ts) rest u e = absurd (cc)

-- a refusal is no reading
refused : {A : Type 0} {n : ℕ} (x : A × List Symbol) → ◌≡◌ {A = Reading A} (Err (syntax n)) (Ok x) → ⊥
refused x e = cc

pub test-sound : (n : ℕ) → Sound (test_at n) (λ ts rest w. IsWritten n ts [] w × (rest ≡ []))
unfolding test_at language_at initial_at
test-sound n ts rest w e =
    let l = bind_ok (word_at ts >>= λ x. if bytes_eq x.0 (codes "C") then Ok (tt, x.1) else Err (syntax (length ts))) _ _ e in
    let c = bind_ok (word_at ts) _ _ l.1 in
    let x = bind_ok (word_at l.0.1) _ _ l.2 in
    let i = bind_ok (expected LeftBrace x.0.1 >>= λ y. entries_at y.1 >>= λ bs. expected RightBrace bs.1 >>= λ z. Ok (bs.0, z.1)) _ _ x.2 in
    let y = bind_ok (expected LeftBrace x.0.1) _ _ i.1 in
    let bs = bind_ok (entries_at y.0.1) _ _ y.2 in
    let z = bind_ok (expected RightBrace bs.0.1) _ _ bs.2 in
    let ps = bind_ok (threads_at n i.0.1) _ _ i.2 in
    let qs = bind_ok (listed_at ps.0.1) _ _ ps.2 in
    let k = bind_ok (condition_at n qs.0.1) _ _ qs.2 in
    let f = bind_ok (end_at k.0.1) _ _ k.2 in
    let ends = end-ok k.0.1 f.0.1 f.0.0 f.1 in
    elim (chosen (bytes_eq c.0.0 (codes "C")) _ _ _ c.2) [
      | inl g ↦
          let is : c.0.0 ≡ codes "C" = bytes_eq-true c.0.0 (codes "C") g.0 in
          let a1 : ts ≡ head_word c.0.0 ∷ c.0.1 = word-ok ts c.0.1 c.0.0 c.1 in
          let a2 : c.0.1 ≡ l.0.1 = moved (λ l t. c.0.1 ≡ l) {x = tt} {ts = c.0.1} g.1 refl in
          let a3 : l.0.1 ≡ head_word x.0.0 ∷ x.0.1 = word-ok l.0.1 x.0.1 x.0.0 x.1 in
          let a4 : x.0.1 ≡ Fixed LeftBrace ∷ y.0.1 = expected-ok LeftBrace x.0.1 y.0.1 y.0.0 y.1 in
          let head : ts ≡ head_word (codes "C") ∷ head_word x.0.0 ∷ Fixed LeftBrace ∷ y.0.1 = cc in
          let entries : IsEntries y.0.1 (Fixed RightBrace ∷ z.0.1) bs.0.0 = subst (λ l. IsEntries y.0.1 l bs.0.0) (expected-ok RightBrace bs.0.1 z.0.1 z.0.0 z.1) (entries-sound y.0.1 bs.0.1 bs.0.0 bs.1) in
          let whole : IsEntries y.0.1 (Fixed RightBrace ∷ i.0.1) i.0.0 = moved (λ l t. IsEntries y.0.1 (Fixed RightBrace ∷ l) t) {x = bs.0.0} {ts = z.0.1} z.2 entries in
          let ending : IsCondition n qs.0.1 [] k.0.0 = subst (λ l. IsCondition n qs.0.1 l k.0.0) ends.0 (condition-sound n qs.0.1 k.0.1 k.0.0 k.1) in
          let w : Written = record { name = x.0.0; entries = i.0.0; threads = ps.0.0; listed = qs.0.0; condition = k.0.0 } in
          moved (λ l t. IsWritten n ts [] t × (l ≡ [])) {x = w} {ts = f.0.1} f.2
          (subst (λ l. IsWritten n l [] w) (sym head) (written whole (threads-sound n i.0.1 ps.0.1 ps.0.0 ps.1) (listed-sound ps.0.1 qs.0.1 qs.0.0 qs.1) ending), ends.1)
      | inr g ↦ absurd (refused l.0 g.1)
    ]
