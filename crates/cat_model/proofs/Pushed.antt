-- Names that are bound one by one stand for what they are bound to.
use Rattle.std.proofs.Common.{◌≡◌, List, [], ◌∷◌, ◌++◌, Option, Some, ◌||◌, length, refl, sym, ◌∙◌, ap, subst, append_assoc, arith}
use Rattle.std.specs.List.{Contains, All}
use Rattle.std.specs.Str.{bytes_eq}
use Rattle.std.proofs.lemmas.List.Elements.{All-cons, All-contains}
use Rattle.cat_model.proofs.Contained.{contains_nothing, contains_one, contains_first, contains_later}
use Rattle.cat_tree.specs.Tree.{Word, Bound, Defined, values_in, function_if, functions_in}
use Rattle.cat_model.proofs.Latest.{known_push}
use Rattle.cat_model.proofs.Nested.{fit_depths_none, fit_depths_value, fit_depths_function}
use Rattle.cat_model.proofs.MarksFit.{fit_marks_none, fit_marks_value, fit_marks_function}
use Rattle.cat_model.proofs.Sized.{fit_sizes_none, fit_sizes_value, fit_sizes_function}
use Rattle.cat_model.proofs.SortsFit.{fit_sorts_none, fit_sorts_value, fit_sorts_function}
use Rattle.cat_model.specs.Behind.{World, Fit, IsSummary, values_above, functions_above, group_above, unbound}
use Rattle.cat_model.specs.Denials.{applied_marks}
use Rattle.cat_model.specs.Depths.{applied_depth}
use Rattle.cat_model.specs.Lookups.{is_known}
use Rattle.cat_model.specs.Sizes.{applied_size}
use Rattle.cat_model.specs.Sorts.{sort, with_sort, just_sort, applied_sort}
use Rattle.cat_model.specs.Schemes.{FitSorts}
use Rattle.cat_model.specs.declared.scope.BoundName.{BoundName}
use Rattle.cat_model.specs.declared.scope.Held.TheVariants.{Value, Function}
use Rattle.cat_model.specs.declared.scope.Summary.{Summary}
use Rattle.cat_model.specs.declared.sort.Sort.{Sort}
use Rattle.cat_model.specs.declared.sort.Sort.TheVariants.{Relation}

pub fit_none : Fit [] unbound
fit_none = record { bound = λ x. refl; sizes = fit_sizes_none; depths = fit_depths_none; sorts = fit_sorts_none; marks = fit_marks_none }

known_more : (ns : List BoundName) (y : BoundName) (W : World) → Fit ns W → (x : Word) → is_known (ns ++ y ∷ []) x ≡ (bytes_eq y.name.now x || W.bound x)
known_more ns y W h x = known_push ns y x ∙ ap (λ b. bytes_eq y.name.now x || b) (h.bound x)

pub fit_value : (ns : List BoundName) (y : BoundName) (k : Sort) (B W : World) (b : Bound) → y.held ≡ Value k → y.name.now ≡ b.name → Some k ≡ sort B.sorts b.value → Fit ns W → Fit (ns ++ y ∷ []) (values_above B (b ∷ []) W)
fit_value ns y k B W b e n s h =
    let P : Word → Type 0 = λ x. Fit (ns ++ y ∷ []) (values_above B (record { name = x; value = b.value } ∷ []) W) in
    let Q : Option Sort → Type 0 = λ o. FitSorts (ns ++ y ∷ []) (with_sort W.sorts y.name.now (just_sort o)) in
    subst P n (record {
      bound = known_more ns y W h;
      sizes = fit_sizes_value ns y k W.sizes e h.sizes;
      depths = fit_depths_value ns y k W.depths e h.depths;
      sorts = subst Q s (fit_sorts_value ns y k W.sorts e h.sorts);
      marks = fit_marks_value ns y k W.marks e h.marks;
    })

pub fit_function : (ns : List BoundName) (y : BoundName) (s : Summary) (B W : World) (d : Defined) → y.held ≡ Function s → y.name.now ≡ d.name → IsSummary s B d → Fit ns W → Fit (ns ++ y ∷ []) (functions_above B (d ∷ []) W)
fit_function ns y s B W d e n i h =
    let P : Word → Type 0 = λ x. Fit (ns ++ y ∷ []) (functions_above B (record { name = x; parameters = d.parameters; value = d.value } ∷ []) W) in
    subst P n (record {
      bound = known_more ns y W h;
      sizes = fit_sizes_function ns y s W.sizes (λ ns. applied_size B.sizes d.parameters d.value ns ns) e h.sizes i.sizing;
      depths = fit_depths_function ns y s W.depths (λ ns. applied_depth B.depths d.parameters d.value ns ns) e h.depths i.nesting;
      sorts = fit_sorts_function ns y s W.sorts (applied_sort B.sorts d.parameters d.value) e h.sorts i.scheme;
      marks = fit_marks_function ns y s W.marks (applied_marks B.marks d.parameters d.value) e h.marks i.marked;
    })

pub fit_relation : (ns : List BoundName) (y : BoundName) (W : World) (b : Bound) → y.held ≡ Value Relation → y.name.now ≡ b.name → Fit ns W → Fit (ns ++ y ∷ []) (group_above (b ∷ []) W)
fit_relation ns y W b e n h =
    let P : Word → Type 0 = λ x. Fit (ns ++ y ∷ []) (group_above (record { name = x; value = b.value } ∷ []) W) in
    subst P n (record {
      bound = known_more ns y W h;
      sizes = fit_sizes_value ns y Relation W.sizes e h.sizes;
      depths = fit_depths_value ns y Relation W.depths e h.depths;
      sorts = fit_sorts_value ns y Relation W.sorts e h.sorts;
      marks = fit_marks_value ns y Relation W.marks e h.marks;
    })

-- the first of a `let`, and those of the rest

pub values_first : (B : World) (d : Defined) (ds : List Defined) (W : World) → values_above B (values_in ds) (values_above B (values_in (d ∷ [])) W) ≡ values_above B (values_in (d ∷ ds)) W
values_first B d ds W = by d.parameters refl
  where
    by : (ps : List Word) → d.parameters ≡ ps → values_above B (values_in ds) (values_above B (values_in (d ∷ [])) W) ≡ values_above B (values_in (d ∷ ds)) W
    by [] e = rw e refl
    by (p ∷ ps) e = rw e refl

pub functions_first : (B : World) (d : Defined) (ds : List Defined) (W : World) → functions_above B (functions_in ds) (functions_above B (functions_in (d ∷ [])) W) ≡ functions_above B (functions_in (d ∷ ds)) W
functions_first B d ds W = by d.parameters refl
  where
    by : (ps : List Word) → d.parameters ≡ ps → functions_above B (functions_in ds) (functions_above B (functions_in (d ∷ [])) W) ≡ functions_above B (functions_in (d ∷ ds)) W
    by [] e = rw e refl
    by (p ∷ ps) e = rw e refl

-- what holds of the first of a `let`, and of those of the rest

pub values_all : (P : Bound → Type 0) (d : Defined) (ds : List Defined) → All P (values_in (d ∷ [])) → All P (values_in ds) → All P (values_in (d ∷ ds))
values_all P d ds = by d.parameters refl
  where
    by : (ps : List Word) → d.parameters ≡ ps → All P (values_in (d ∷ [])) → All P (values_in ds) → All P (values_in (d ∷ ds))
    by [] e = rw e (λ h k. All-cons P (record { name = d.name; value = d.value }) (values_in ds) (All-contains P (record { name = d.name; value = d.value } ∷ []) (record { name = d.name; value = d.value }) h (contains_first (record { name = d.name; value = d.value }) [])) k)
    by (p ∷ ps) e = rw e (λ h k. k)

pub value_first : (d : Defined) (ds : List Defined) (b : Bound) → Contains (values_in (d ∷ [])) b → Contains (values_in (d ∷ ds)) b
value_first d ds b = by d.parameters refl
  where
    by : (ps : List Word) → d.parameters ≡ ps → Contains (values_in (d ∷ [])) b → Contains (values_in (d ∷ ds)) b
    by [] e = rw e (λ h. subst (Contains (record { name = d.name; value = d.value } ∷ values_in ds)) (contains_one (record { name = d.name; value = d.value }) b h) (contains_first (record { name = d.name; value = d.value }) (values_in ds)))
    by (p ∷ ps) e = rw e (λ h. absurd (contains_nothing b h))

pub value_later : (d : Defined) (ds : List Defined) (b : Bound) → Contains (values_in ds) b → Contains (values_in (d ∷ ds)) b
value_later d ds b = by d.parameters refl
  where
    by : (ps : List Word) → d.parameters ≡ ps → Contains (values_in ds) b → Contains (values_in (d ∷ ds)) b
    by [] e = rw e (λ h. contains_later (record { name = d.name; value = d.value }) (values_in ds) b h)
    by (p ∷ ps) e = rw e (λ h. h)

-- pushes

pub value_pushed : (ns above more : List BoundName) (y : BoundName) (k : Sort) (B W : World) (b : Bound) → more ≡ above ++ y ∷ [] → y.held ≡ Value k → y.name.now ≡ b.name → Some k ≡ sort B.sorts b.value → Fit (ns ++ above) W → Fit (ns ++ more) (values_above B (b ∷ []) W)
value_pushed ns above more y k B W b m e n s h =
    let P : List BoundName → Type 0 = λ l. Fit l (values_above B (b ∷ []) W) in
    subst P (append_assoc ns above (y ∷ []) ∙ ap (λ l. ns ++ l) (sym m)) (fit_value (ns ++ above) y k B W b e n s h)

pub function_pushed : (ns above more : List BoundName) (y : BoundName) (s : Summary) (B W : World) (d : Defined) → more ≡ above ++ y ∷ [] → y.held ≡ Function s → y.name.now ≡ d.name → IsSummary s B d → Fit (ns ++ above) W → Fit (ns ++ more) (functions_above B (d ∷ []) W)
function_pushed ns above more y s B W d m e n i h =
    let P : List BoundName → Type 0 = λ l. Fit l (functions_above B (d ∷ []) W) in
    subst P (append_assoc ns above (y ∷ []) ∙ ap (λ l. ns ++ l) (sym m)) (fit_function (ns ++ above) y s B W d e n i h)

pub some_function : (ps : List Word) (d : Defined) → (length ps ≡ 0 → ⊥) → function_if ps d [] ≡ d ∷ []
some_function [] d h = absurd (h (omega arith))
some_function (p ∷ ps) d h = refl

pub relation_pushed : (ns more : List BoundName) (y : BoundName) (W : World) (b : Bound) → more ≡ ns ++ y ∷ [] → y.held ≡ Value Relation → y.name.now ≡ b.name → Fit ns W → Fit more (group_above (b ∷ []) W)
relation_pushed ns more y W b m e n h = subst (λ l. Fit l (group_above (b ∷ []) W)) (sym m) (fit_relation ns y W b e n h)
