-- Charges that are counted.
use Rattle.std.proofs.Common.{◌≡◌, ◌<◌, ◌≤◌, inl, inr, ℕ, ◌+◌, List, [], ◌∷◌, ◌++◌, None, Some, map, drop, length, get_or, refl, sym, ◌∙◌, ap, subst, arith, append_assoc, append-nil}
use Rattle.std.proofs.lemmas.List.{drop_more}
use Rattle.std.proofs.lemmas.List.Elements.{All-nil, All-cons, All-append, All-contains}
use Rattle.cat_tree.specs.Tree.{Word, Defined, values_in}
use Rattle.cat_model.proofs.Contained.{contains_first}
use Rattle.cat_model.specs.Counts.{IsCharged, IsCount, CountsUpTo, IsOver}
use Rattle.cat_model.specs.Depths.{Depths}
use Rattle.cat_model.specs.Scopes.{Charge, charges_for, total_nodes, AreFew}
use Rattle.cat_model.specs.Sizes.{Sizes}
use Rattle.std.proofs.lemmas.List.Elements.{Contains-append_right}
use Rattle.cat_model.specs.declared.fault.ModelFault.{ModelFault}
use Rattle.cat_model.specs.declared.fault.ModelFault.TheVariants.{CallsTooLarge}

pub total_append : (cs ds : List Charge) → total_nodes (cs ++ ds) ≡ total_nodes cs + total_nodes ds
total_append [] ds = omega arith
total_append (c ∷ cs) ds = let e = total_append cs ds in omega (arith, e)

pub count_more : (n m : ℕ) (cs : List Charge) (c : Charge) → IsCount n cs → IsCharged (Some m) n c → IsCount m (cs ++ c ∷ [])
count_more n m cs c h i =
    let e = total_append cs (c ∷ []) in
    let a = i.0 in
    let b = i.1.0 in
    let f = h.total in
    record {
      total = omega (arith, e, a, f);
      few = record { nodes = omega (arith, e, a, b, f); depth = All-append (λ d. d.depth ≤ 64) cs (c ∷ []) h.few.depth (All-cons (λ d. d.depth ≤ 64) c [] i.1.1 (All-nil (λ d. d.depth ≤ 64))) };
    }

pub large_one : (n : ℕ) (cs : List Charge) (c : Charge) → IsCount n cs → IsCharged None n c → AreFew (cs ++ c ∷ []) → ⊥
large_one n cs c h i f =
    let e = total_append cs (c ∷ []) in
    let a = h.total in
    let b = f.nodes in
    elim i [
      | inl l ↦ absurd (omega (arith, e, a, b, l))
      | inr d ↦ (let s = All-contains (λ d. d.depth ≤ 64) (cs ++ c ∷ []) c f.depth (Contains-append_right cs (c ∷ []) c (contains_first c [])) in absurd (omega (arith, d, s)))
    ]

pub over_one : (n : ℕ) (cs : List Charge) (c : Charge) → IsCount n cs → (¬ AreFew (cs ++ c ∷ [])) → IsOver cs (c ∷ []) c.name
over_one n cs c h l = record {
  before = [];
  at = c;
  after = [];
  split = refl;
  name = refl;
  few = subst AreFew (sym (append-nil cs)) h.few;
  large = λ f. l (subst (λ ds. AreFew (ds ++ c ∷ [])) (append-nil cs) f);
}

-- a loop over charges

pub up_to_more : (n m : ℕ) (cs here left old all : List Charge) → old ≡ here ++ left → CountsUpTo n cs old all → ((ds : List Charge) → IsCount n ds → IsCount m (ds ++ here)) → CountsUpTo m cs left all
up_to_more n m cs here left old all e u step = record {
  done = u.done ++ here;
  count = subst (IsCount m) (append_assoc cs u.done here) (step (cs ++ u.done) u.count);
  whole = append_assoc u.done here left ∙ ap (λ l. u.done ++ l) (sym e) ∙ u.whole;
}

pub up_to_end : (n : ℕ) (cs left all : List Charge) → left ≡ [] → CountsUpTo n cs left all → IsCount n (cs ++ all)
up_to_end n cs left all e u = subst (λ l. IsCount n (cs ++ l)) (sym (append-nil u.done) ∙ ap (λ l. u.done ++ l) (sym e) ∙ u.whole) u.count

pub over_at : (cs here left old all : List Charge) (w : Word) → old ≡ here ++ left → (done : List Charge) → done ++ old ≡ all → IsOver (cs ++ done) here w → IsOver cs all w
over_at cs here left old all w e done whole o = record {
  before = done ++ o.before;
  at = o.at;
  after = o.after ++ left;
  split =
      sym whole ∙ ap (λ l. done ++ l) (e ∙ ap (λ l. l ++ left) o.split ∙ append_assoc o.before (o.at ∷ o.after) left)
      ∙ sym (append_assoc done o.before (o.at ∷ (o.after ++ left)));
  name = o.name;
  few = subst AreFew (append_assoc cs done o.before) o.few;
  large = λ f. o.large (subst (λ l. AreFew (l ++ o.at ∷ [])) (sym (append_assoc cs done o.before)) f);
}

-- the first binding's charge, and those of the rest
pub charges_first : (Z : Sizes) (D : Depths) (d : Defined) (ds : List Defined) → charges_for Z D (values_in (d ∷ ds)) ≡ charges_for Z D (values_in (d ∷ [])) ++ charges_for Z D (values_in ds)
charges_first Z D d ds = by d.parameters refl
  where
    by : (ps : List Word) → d.parameters ≡ ps → charges_for Z D (values_in (d ∷ ds)) ≡ charges_for Z D (values_in (d ∷ [])) ++ charges_for Z D (values_in ds)
    by [] e = rw e refl
    by (p ∷ ps) e = rw e refl

pub mapped_more : {X Y : Type 0} (f : X → Y) (xs : List X) (k : ℕ) (x : X) → k < length xs → x ≡ get_or xs k x → map f (drop k xs) ≡ f x ∷ map f (drop (k + 1) xs)
mapped_more f xs k x l at = ap (map f) (drop_more xs k x l ∙ ap (λ y. y ∷ drop (k + 1) xs) (sym at))

pub few_nodes : (n : ℕ) (cs : List Charge) → IsCount n cs → n ≤ 65536
few_nodes n cs h = let e = h.total in let f = h.few.nodes in omega (arith, e, f)

pub over_here : (n : ℕ) (cs : List Charge) (c : Charge) → IsCount n cs → IsCharged None n c → IsOver cs (c ∷ []) c.name
over_here n cs c h i = over_one n cs c h (large_one n cs c h i)

-- a loop's step, of the fault that it hands on
pub over_told : (e : ModelFault) (n : ℕ) (cs here left old all : List Charge) → old ≡ here ++ left → CountsUpTo n cs old all → ((ds : List Charge) → IsCount n ds → (w : Word) × (e ≡ CallsTooLarge w) × IsOver ds here w) → (w : Word) × (e ≡ CallsTooLarge w) × IsOver cs all w
over_told e n cs here left old all s u step =
    let o = step (cs ++ u.done) u.count in
    (o.0, o.1, over_at cs here left old all o.0 s u.done u.whole o.2)
