-- One item more: what stands behind it, and its faults.
use Rattle.std.proofs.Common.{◌≡◌, ◌<◌, ℕ, ◌+◌, take, drop, length, get_or, List, [], ◌∷◌, ◌++◌, Bool, true, false, ◌||◌, map, refl, sym, ◌∙◌, ap, subst, append_assoc, append-nil}
use Rattle.std.proofs.lemmas.List.{take_more, take-append-drop}
use Rattle.std.specs.Option.{is_some}
use Rattle.std.specs.Str.{bytes_eq}
use Rattle.std.proofs.lemmas.List.Folds.{list_any-append}
use Rattle.std.specs.declared.alloc.Global.{Global}
use Rattle.std.specs.declared.vec.Vec.{Vec}
use Rattle.wb_text.specs.declared.name.Name.{Name}
use Rattle.cat_tree.specs.declared.tree.Element.{Element}
use Rattle.cat_tree.specs.declared.tree.Item.{Item}
use Rattle.cat_tree.specs.declared.tree.Item.TheVariants as items
use Rattle.cat_tree.specs.Tree.{clause_of, shown_of, Word, Bound, Defined, values_in, functions_in, Clause, bind, bind_recursively, check, include, show, unshow, is_bound}
use Rattle.cat_model.specs.Beforehand.{beforehand}
use Rattle.cat_model.specs.Behind.{World, Fit, group_above, past, behind, first, with_bound}
use Rattle.cat_model.specs.Counts.{IsCount, IsOver, Stands}
use Rattle.cat_model.specs.Denials.{Marking, marks_past, first_marks}
use Rattle.cat_model.specs.Depths.{depths_past}
use Rattle.cat_model.specs.Faults.{IsTooLarge, IsMissorted, marks_behind, IsDenied, IsItemFault, IsFaulty}
use Rattle.cat_model.specs.Lookups.{is_known}
use Rattle.cat_model.specs.Named.{named_of}
use Rattle.cat_model.specs.Names.{IsNamed, IsBound, AreBound, is_among, bound_by, bound_by_all, is_bound_behind}
use Rattle.cat_model.specs.Scopes.{IsOrdered, AreOrdered, charges_of, all_charges, charges, AreFew, IsModel}
use Rattle.cat_model.specs.Sizes.{sizes_past}
use Rattle.cat_model.specs.Sorts.{Sorting, sorts_past, sorts_behind, first_sorts}
use Rattle.cat_model.specs.declared.fault.ModelFault.{ModelFault}
use Rattle.cat_model.specs.declared.fault.ModelFault.TheVariants.{Unbound, CallsTooLarge, WrongSort, NotMonotone}
use Rattle.cat_model.specs.declared.scope.BoundName.{BoundName}

-- what names stand for behind items

pub behind_append : (W : World) (is js : List Clause) → behind W (is ++ js) ≡ behind (behind W is) js
behind_append W [] js = refl
behind_append W (i ∷ is) js = behind_append (past W i) is js

past_sorts : (W : World) (i : Clause) → (past W i).sorts ≡ sorts_past W.sorts i
past_sorts W (bind ds) = refl
past_sorts W (bind_recursively bs) = refl
past_sorts W (check flag negated kind a x) = refl
past_sorts W (include x) = refl
past_sorts W (show es) = refl
past_sorts W (unshow xs) = refl

past_marks : (W : World) (i : Clause) → (past W i).marks ≡ marks_past W.marks i
past_marks W (bind ds) = refl
past_marks W (bind_recursively bs) = refl
past_marks W (check flag negated kind a x) = refl
past_marks W (include x) = refl
past_marks W (show es) = refl
past_marks W (unshow xs) = refl

pub sorts_of : (W : World) (is : List Clause) → (behind W is).sorts ≡ sorts_behind W.sorts is
sorts_of W [] = refl
sorts_of W (i ∷ is) = sorts_of (past W i) is ∙ ap (λ S. sorts_behind S is) (past_sorts W i)

pub marks_of : (W : World) (is : List Clause) → (behind W is).marks ≡ marks_behind W.marks is
marks_of W [] = refl
marks_of W (i ∷ is) = marks_of (past W i) is ∙ ap (λ M. marks_behind M is) (past_marks W i)

-- charges

past_charges : (W : World) (i : Clause) (js : List Clause) → all_charges (sizes_past W.sizes i) (depths_past W.depths i) js ≡ all_charges (past W i).sizes (past W i).depths js
past_charges W (bind ds) js = refl
past_charges W (bind_recursively bs) js = refl
past_charges W (check flag negated kind a x) js = refl
past_charges W (include x) js = refl
past_charges W (show es) js = refl
past_charges W (unshow xs) js = refl

all_charges_push : (W : World) (is : List Clause) (j : Clause) → all_charges W.sizes W.depths (is ++ j ∷ []) ≡ all_charges W.sizes W.depths is ++ charges_of (behind W is).sizes (behind W is).depths j
all_charges_push W [] j = append-nil (charges_of W.sizes W.depths j)
all_charges_push W (i ∷ is) j =
    ap (λ cs. charges_of W.sizes W.depths i ++ cs) (past_charges W i (is ++ j ∷ []) ∙ all_charges_push (past W i) is j ∙ ap (λ cs. cs ++ charges_of (behind (past W i) is).sizes (behind (past W i) is).depths j) (sym (past_charges W i is)))
    ∙ sym (append_assoc (charges_of W.sizes W.depths i) (all_charges (sizes_past W.sizes i) (depths_past W.depths i) is) (charges_of (behind (past W i) is).sizes (behind (past W i) is).depths j))

pub charges_push : (front : List Clause) (i : Clause) → charges (front ++ i ∷ []) ≡ charges front ++ charges_of (behind first front).sizes (behind first front).depths i
charges_push front i = all_charges_push first front i

-- order

pub ordered_push : (W : World) (is : List Clause) (j : Clause) → AreOrdered W.sorts W.marks is → IsOrdered (behind W is).sorts (behind W is).marks j → AreOrdered W.sorts W.marks (is ++ j ∷ [])
ordered_push W [] j h o = (o, tt)
ordered_push W (i ∷ is) j h o =
    let P : Sorting → Type 0 = λ S. AreOrdered S (marks_past W.marks i) (is ++ j ∷ []) in
    let Q : Marking → Type 0 = λ M. AreOrdered (past W i).sorts M (is ++ j ∷ []) in
    let R : Sorting → Type 0 = λ S. AreOrdered S (marks_past W.marks i) is in
    let T : Marking → Type 0 = λ M. AreOrdered (past W i).sorts M is in
    (h.0, subst P (past_sorts W i) (subst Q (past_marks W i) (ordered_push (past W i) is j (subst T (sym (past_marks W i)) (subst R (sym (past_sorts W i)) h.1)) o)))

-- names

turn : (a b c : Bool) → (a || (b || c)) ≡ ((b || a) || c)
turn true true c = refl
turn true false c = refl
turn false b c = assoc b c
  where
    assoc : (b c : Bool) → (b || c) ≡ ((b || false) || c)
    assoc true c = refl
    assoc false c = refl

or_assoc : (a b c : Bool) → ((a || b) || c) ≡ (a || (b || c))
or_assoc true b c = refl
or_assoc false b c = refl

pub with_bound_is : (ys : List Word) (B : Word → Bool) (x : Word) → with_bound ys B x ≡ (is_among ys x || B x)
with_bound_is [] B x = refl
with_bound_is (y ∷ ys) B x = with_bound_is ys (λ z. bytes_eq y z || B z) x ∙ turn (is_among ys x) (bytes_eq y x) (B x)

names_split : (ds : List Defined) (x : Word) → (is_among (map (λ d. d.name) (functions_in ds)) x || is_among (map (λ b. b.name) (values_in ds)) x) ≡ is_among (map (λ d. d.name) ds) x
names_split [] x = refl
names_split (d ∷ ds) x = by d.parameters refl (names_split ds x)
  where
    move : (a b c : Bool) → (a || (b || c)) ≡ (b || (a || c))
    move true true c = refl
    move true false c = refl
    move false b c = refl

    by : (ps : List Word) → d.parameters ≡ ps → (is_among (map (λ d. d.name) (functions_in ds)) x || is_among (map (λ b. b.name) (values_in ds)) x) ≡ is_among (map (λ d. d.name) ds) x →
        (is_among (map (λ d. d.name) (functions_in (d ∷ ds))) x || is_among (map (λ b. b.name) (values_in (d ∷ ds))) x) ≡ is_among (map (λ d. d.name) (d ∷ ds)) x
    by [] e h = rw e (move (is_among (map (λ d. d.name) (functions_in ds)) x) (bytes_eq d.name x) (is_among (map (λ b. b.name) (values_in ds)) x) ∙ ap (λ b. bytes_eq d.name x || b) h)
    by (p ∷ ps) e h = rw e (or_assoc (bytes_eq d.name x) (is_among (map (λ d. d.name) (functions_in ds)) x) (is_among (map (λ b. b.name) (values_in ds)) x) ∙ ap (λ b. bytes_eq d.name x || b) h)

past_bound : (W : World) (i : Clause) (x : Word) → (past W i).bound x ≡ (is_among (bound_by i) x || W.bound x)
past_bound W (bind ds) x =
    let fs : List Word = map (λ d. d.name) (functions_in ds) in
    let vs : List Word = map (λ b. b.name) (values_in ds) in
    with_bound_is fs (with_bound vs W.bound) x ∙ ap (λ b. is_among fs x || b) (with_bound_is vs W.bound x) ∙ sym (or_assoc (is_among fs x) (is_among vs x) (W.bound x)) ∙ ap (λ b. b || W.bound x) (names_split ds x)
past_bound W (bind_recursively bs) x = with_bound_is (map (λ b. b.name) bs) W.bound x
past_bound W (check flag negated kind a y) x = refl
past_bound W (include y) x = refl
past_bound W (show es) x = refl
past_bound W (unshow xs) x = refl

behind_bound : (W : World) (is : List Clause) (x : Word) → (behind W is).bound x ≡ (is_among (bound_by_all is) x || W.bound x)
behind_bound W [] x = refl
behind_bound W (i ∷ is) x =
    behind_bound (past W i) is x ∙ ap (λ b. is_among (bound_by_all is) x || b) (past_bound W i x) ∙ turn (is_among (bound_by_all is) x) (is_among (bound_by i) x) (W.bound x)
    ∙ ap (λ b. b || W.bound x) (sym (list_any-append (λ y. bytes_eq y x) (bound_by i) (bound_by_all is)))

pub first_bound : (front : List Clause) (x : Word) → (behind first front).bound x ≡ is_bound_behind front x
first_bound front x =
    behind_bound first front x ∙ ap (λ b. is_among (bound_by_all front) x || b) (with_bound_is (map (λ d. d.name) beforehand) (λ y. is_some (named_of y)) x)

-- bound names

pub bound_push : (front is : List Clause) (j : Clause) → AreBound front is → IsBound (front ++ is) j → AreBound front (is ++ j ∷ [])
bound_push front [] j h b = (subst (λ is. IsBound is j) (append-nil front) b, tt)
bound_push front (i ∷ is) j h b = (h.0, bound_push (front ++ i ∷ []) is j h.1 (subst (λ is. IsBound is j) (sym (append_assoc front (i ∷ []) is)) b))

-- what is known behind one item more
pub stands_push : (ns ms : List BoundName) (n m : ℕ) (front : List Clause) (i : Clause) → Stands ns n front → Fit ms (past (behind first front) i) →
    IsCount m (charges front ++ charges_of (behind first front).sizes (behind first front).depths i) → IsBound front i → IsOrdered (behind first front).sorts (behind first front).marks i → Stands ms m (front ++ i ∷ [])
stands_push ns ms n m front i s f c b o = record {
  fit = subst (Fit ms) (sym (behind_append first front (i ∷ []))) f;
  count = subst (IsCount m) (sym (charges_push front i)) c;
  bound = bound_push [] front i s.bound b;
  ordered = ordered_push first front i s.ordered o;
}

pub stands_idle : (ns : List BoundName) (n : ℕ) (front : List Clause) (i : Clause) → Stands ns n front → past (behind first front) i ≡ behind first front → charges_of (behind first front).sizes (behind first front).depths i ≡ [] →
    IsBound front i → IsOrdered (behind first front).sorts (behind first front).marks i → Stands ns n (front ++ i ∷ [])
stands_idle ns n front i s p c b o =
    stands_push ns ns n n front i s (subst (Fit ns) (sym p) s.fit) (subst (IsCount n) (sym (ap (λ cs. charges front ++ cs) c ∙ append-nil (charges front))) s.count) b o

-- the faults of one item more

pub known_behind : (ns : List BoundName) (n : ℕ) (front : List Clause) (x : Word) (b : Bool) → Stands ns n front → is_known ns x ≡ b → is_bound_behind front x ≡ b
known_behind ns n front x b s e = sym (first_bound front x) ∙ sym (s.fit.bound x) ∙ e

pub too_large : (front : List Clause) (i : Clause) (w : Word) → IsOver (charges front) (charges_of (behind first front).sizes (behind first front).depths i) w → IsTooLarge (front ++ i ∷ []) w
too_large front i w o = record {
  before = charges front ++ o.before;
  at = o.at;
  behind = o.after;
  split = charges_push front i ∙ ap (λ cs. charges front ++ cs) o.split ∙ sym (append_assoc (charges front) o.before (o.at ∷ o.after));
  name = o.name;
  few = o.few;
  large = o.large;
}

pub few_push : (m : ℕ) (front : List Clause) (i : Clause) → IsCount m (charges front ++ charges_of (behind first front).sizes (behind first front).depths i) → AreFew (charges (front ++ i ∷ []))
few_push m front i c = subst AreFew (sym (charges_push front i)) c.few

pub unbound_fault : (e : ModelFault) (x : Word) (front : List Clause) (i : Clause) → e ≡ Unbound x → IsNamed i x → is_bound_behind front x ≡ false → IsItemFault e front i
unbound_fault e x front i d n b = subst (λ f. IsItemFault f front i) (sym d) (n, b)

pub large_fault : (e : ModelFault) (front : List Clause) (i : Clause) → IsBound front i → (w : Word) × (e ≡ CallsTooLarge w) × IsOver (charges front) (charges_of (behind first front).sizes (behind first front).depths i) w → IsItemFault e front i
large_fault e front i b o = subst (λ f. IsItemFault f front i) (sym o.1) (b, too_large front i o.0 o.2)

pub sort_fault : (e : ModelFault) (w : Word) (m : ℕ) (front : List Clause) (i : Clause) → e ≡ WrongSort w → IsBound front i → IsCount m (charges front ++ charges_of (behind first front).sizes (behind first front).depths i) → IsMissorted (behind first front).sorts i w →
    IsItemFault e front i
sort_fault e w m front i d b c h =
    subst (λ f. IsItemFault f front i) (sym d) (b, few_push m front i c, subst (λ S. IsMissorted S i w) (sorts_of first front) h)

pub denied_fault : (e : ModelFault) (x : Word) (front : List Clause) (i : Clause) → e ≡ NotMonotone x → IsDenied (behind first front).marks i x → IsItemFault e front i
denied_fault e x front i d h = subst (λ f. IsItemFault f front i) (sym d) (subst (λ M. IsDenied M i x) (marks_of first front) h)

-- names of a recursive group

group_names : (bs : List Bound) (x : Word) → is_among (map (λ b. b.name) bs) x ≡ is_bound bs x
group_names [] x = refl
group_names (b ∷ bs) x = ap (λ r. bytes_eq b.name x || r) (group_names bs x)

neither : (a b : Bool) → (a || b) ≡ false → (a ≡ false) × (b ≡ false)
neither true b h = cc
neither false b h = (refl, h)

other : (a b : Bool) → (a || b) ≡ true → a ≡ false → b ≡ true
other true b h f = cc
other false b h f = h

group_bound : (W : World) (bs : List Bound) (x : Word) → (group_above bs W).bound x ≡ (is_bound bs x || W.bound x)
group_bound W bs x = with_bound_is (map (λ b. b.name) bs) W.bound x ∙ ap (λ r. r || W.bound x) (group_names bs x)

pub group_unknown : (ns ms : List BoundName) (n : ℕ) (front : List Clause) (bs : List Bound) (x : Word) → Stands ns n front → Fit ms (group_above bs (behind first front)) → is_known ms x ≡ false → (is_bound bs x ≡ false) × (is_bound_behind front x ≡ false)
group_unknown ns ms n front bs x s f h =
    let p = neither (is_bound bs x) ((behind first front).bound x) (sym (group_bound (behind first front) bs x) ∙ sym (f.bound x) ∙ h) in
    (p.0, sym (first_bound front x) ∙ p.1)

pub group_known : (ns ms : List BoundName) (n : ℕ) (front : List Clause) (bs : List Bound) (x : Word) → Stands ns n front → Fit ms (group_above bs (behind first front)) → is_known ms x ≡ true → is_bound bs x ≡ false → is_bound_behind front x ≡ true
group_known ns ms n front bs x s f h b =
    sym (first_bound front x) ∙ other (is_bound bs x) ((behind first front).bound x) (sym (group_bound (behind first front) bs x) ∙ sym (f.bound x) ∙ h) b

-- one more item is in order

pub front_more : (is : List Clause) (k : ℕ) (i : Clause) → k < length is → i ≡ get_or is k i → take k is ++ i ∷ [] ≡ take (k + 1) is
front_more is k i l at = ap (λ j. take k is ++ j ∷ []) at ∙ sym (take_more is k i l)

pub faulty_at : (e : ModelFault) (is : List Clause) (k : ℕ) (i : Clause) → k < length is → i ≡ get_or is k i → AreOrdered first_sorts first_marks (take k is) → IsItemFault e (take k is) i → IsFaulty e is
faulty_at e is k i l at h f = record {
  front = take k is;
  item = i;
  rest = drop (k + 1) is;
  split = sym (take-append-drop (k + 1) is) ∙ (ap (λ js. js ++ drop (k + 1) is) (sym (front_more is k i l at)) ∙ append_assoc (take k is) (i ∷ []) (drop (k + 1) is));
  ordered = h;
  fault = f;
}

pub model_of : (ns : List BoundName) (n : ℕ) (is : List Clause) → Stands ns n is → IsModel is
model_of ns n is s = record { bound = s.bound; ordered = s.ordered; few = s.count.few }

-- what is shown changes nothing

pub shown_idle : (ns : List BoundName) (n : ℕ) (front : List Clause) (i : Item) (v : Vec Element Global) → i ≡ items.Show v → Stands ns n front → Stands ns n (front ++ clause_of i ∷ [])
shown_idle ns n front i v e s = subst (λ j. Stands ns n (front ++ clause_of j ∷ [])) (sym e) (stands_idle ns n front (show (map shown_of v.items)) s refl refl (λ x h. absurd h) tt)

pub unshown_idle : (ns : List BoundName) (n : ℕ) (front : List Clause) (i : Item) (v : Vec Name Global) → i ≡ items.Unshow v → Stands ns n front → Stands ns n (front ++ clause_of i ∷ [])
unshown_idle ns n front i v e s = subst (λ j. Stands ns n (front ++ clause_of j ∷ [])) (sym e) (stands_idle ns n front (unshow v.items) s refl refl (λ x h. absurd h) tt)
