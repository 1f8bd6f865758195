-- Sizes as weights.
use Rattle.std.proofs.Common.{◌≡◌, ℕ, suc, ◌+◌, ◌*◌, List, [], ◌∷◌, ◌++◌, length, map, Some, cond, refl, sym, ◌∙◌, ap, subst, inl, inr, arith}
use Rattle.std.specs.Str.{bytes_eq}
use Rattle.cat_tree.specs.Tree.{Word, Term, Terms, union, sequence, difference, intersection, product, complement, plus, star, optional, inverse, domain, range, identity, name, empty_relation, empty_set, universe, call, no_terms, term}
use Rattle.cat_model.specs.Lookups.{held_in}
use Rattle.cat_model.specs.Sizes.{Sizes, total, wrong, size, sizes, with_size, just, applied_size}
use Rattle.cat_model.specs.Sizing.{Near, IsSizing, FitSizes}
use Rattle.cat_model.specs.declared.scope.BoundName.{BoundName}
use Rattle.cat_model.specs.declared.scope.Held.TheVariants.{Value, Function}
use Rattle.cat_model.specs.declared.scope.Summary.{Summary}
use Rattle.cat_model.specs.declared.sizes.Sizing.{Sizing}
use Rattle.cat_model.specs.declared.sort.Sort.{Sort}
use Rattle.cat_model.specs.declared.weights.Measure.TheVariants.{Size}
use Rattle.cat_model.specs.Weights.{Alike, all_beside, node_over, placed, by_held, just_weight, given, place_in, told, listed, Measures, AreWeights}
use Rattle.cat_model.proofs.Counting.{miscalled_by, well_called_by}
use Rattle.cat_model.proofs.Fitting.{given_more, alike_cond, as_many, held_more}

total_is : (ns : List ℕ) → all_beside Size ns ≡ total ns
total_is [] = refl
total_is (n ∷ ns) = ap (λ k. n + k) (total_is ns)

wrong_is : (ns : List ℕ) → node_over Size ns ≡ wrong ns
wrong_is ns = ap (λ k. 1 + k) (total_is ns)

just_is : (k : ℕ) (ns : List ℕ) → just_weight Size k ns ≡ just k ns
just_is k [] = refl
just_is k (n ∷ ns) = wrong_is (n ∷ ns)

-- parameters

abbrev bound_sizes : Sizes → List Word → List ℕ → Sizes
bound_sizes Z [] ms = Z
bound_sizes Z (x ∷ xs) [] = Z
bound_sizes Z (x ∷ xs) (m ∷ ms) = bound_sizes (with_size Z x (just m)) xs ms

applied_is : (Z : Sizes) (xs : List Word) (t : Term) (ns all : List ℕ) → length ns ≡ length xs → applied_size Z xs t ns all ≡ size (bound_sizes Z xs ns) t
applied_is Z [] t [] all e = refl
applied_is Z [] t (n ∷ ns) all e = absurd (omega (arith, e))
applied_is Z (x ∷ xs) t [] all e = absurd (omega (arith, e))
applied_is Z (x ∷ xs) t (n ∷ ns) all e = applied_is (with_size Z x (just n)) xs t ns all (omega (arith, e))

applied_wrong : (Z : Sizes) (xs : List Word) (t : Term) (ns all : List ℕ) → (length ns ≡ length xs → ⊥) → applied_size Z xs t ns all ≡ wrong all
applied_wrong Z [] t [] all f = absurd (f refl)
applied_wrong Z [] t (n ∷ ns) all f = refl
applied_wrong Z (x ∷ xs) t [] all f = refl
applied_wrong Z (x ∷ xs) t (n ∷ ns) all f = applied_wrong (with_size Z x (just n)) xs t ns all (λ e. f (ap suc e))

told_sizes : (Z : Sizes) (xs : List Word) (ms : List ℕ) (x : Word) (ns : List ℕ) (e : ℕ) → length ms ≡ length xs → Near e (Z x ns) → Alike Size (given Size (place_in xs x) ms ns e) (bound_sizes Z xs ms x ns)
told_sizes Z [] ms x ns e l h = h
told_sizes Z (y ∷ ys) [] x ns e l h = absurd (omega (arith, l))
told_sizes Z (y ∷ ys) (m ∷ ms) x ns e l h =
    let P : ℕ → Type 0 = λ k. Alike Size k (bound_sizes (with_size Z y (just m)) ys ms x ns) in
    subst P (sym (given_more Size y ys x m ms ns e)) (told_sizes (with_size Z y (just m)) ys ms x ns (cond (bytes_eq y x) (just_weight Size m ns) e) (omega (arith, l))
    (alike_cond Size (bytes_eq y x) (just_weight Size m ns) e (just m ns) (Z x ns) (inl (just_is m ns)) h))

sizes_of : (Z : Sizes) (bs : Terms) → sizes Z bs ≡ map (size Z) (listed bs)
sizes_of Z no_terms = refl
sizes_of Z (term a bs) = ap (λ l. size Z a ∷ l) (sizes_of Z bs)

one_over : (a : ℕ) → node_over Size (a ∷ []) ≡ 1 + a
one_over a = omega arith

two_over : (a b : ℕ) → node_over Size (a ∷ b ∷ []) ≡ 1 + a + b
two_over a b = omega arith

measures_sizes : (names : List BoundName) (xs : List Word) (ms : List ℕ) (Z : Sizes) → FitSizes names Z → length ms ≡ length xs → Measures Size names xs ms (size (bound_sizes Z xs ms))
measures_sizes names xs ms Z f l (union a b) = inl (two_over _ _)
measures_sizes names xs ms Z f l (sequence a b) = inl (two_over _ _)
measures_sizes names xs ms Z f l (difference a b) = inl (two_over _ _)
measures_sizes names xs ms Z f l (intersection a b) = inl (two_over _ _)
measures_sizes names xs ms Z f l (product a b) = inl (two_over _ _)
measures_sizes names xs ms Z f l (complement a) = inl (one_over _)
measures_sizes names xs ms Z f l (plus a) = inl (one_over _)
measures_sizes names xs ms Z f l (star a) = inl (one_over _)
measures_sizes names xs ms Z f l (optional a) = inl (one_over _)
measures_sizes names xs ms Z f l (inverse a) = inl (one_over _)
measures_sizes names xs ms Z f l (domain a) = inl (one_over _)
measures_sizes names xs ms Z f l (range a) = inl (one_over _)
measures_sizes names xs ms Z f l (identity a) = inl (one_over _)
measures_sizes names xs ms Z f l (name x) = told_sizes Z xs ms x [] (by_held Size (held_in names x) []) l (f x [])
measures_sizes names xs ms Z f l empty_relation = inl refl
measures_sizes names xs ms Z f l empty_set = inl refl
measures_sizes names xs ms Z f l universe = inl refl
measures_sizes names xs ms Z f l (call g bs) =
    let E : Sizes = bound_sizes Z xs ms in
    let ns : List ℕ = map (size E) (listed bs) in
    let P : ℕ → Type 0 = λ k. Alike Size (told Size names xs ms g ns) k in
    subst P (ap (λ l. E g l) (sym (sizes_of E bs))) (told_sizes Z xs ms g ns (by_held Size (held_in names g) ns) l (f g ns))

-- what is made of weights

pub size_by : (names : List BoundName) (t : Term) (ws : List ℕ) (n : ℕ) → AreWeights Size names [] t 1 ws → ws ≡ n ∷ [] → (Z : Sizes) → FitSizes names Z → Near n (size Z t)
size_by names t ws n h e Z f =
    let P : ℕ → Type 0 = λ k. Alike Size k (1 * size Z t) in
    let Q : ℕ → Type 0 = λ k. Alike Size n k in
    let a : placed Size ws (1 ∷ []) ≡ n = ap (λ l. placed Size l (1 ∷ [])) e ∙ omega arith in
    let b : 1 * size Z t ≡ size Z t = omega arith in
    subst Q b (subst P a (h.come [] (size Z) refl (measures_sizes names [] [] Z f refl)))

pub sizing_by : (names : List BoundName) (xs : List Word) (t : Term) (s : Sizing) → AreWeights Size names xs t 1 s.weights.items → (Z : Sizes) → FitSizes names Z → IsSizing s (λ ns. applied_size Z xs t ns ns)
sizing_by names xs t s h Z f ns = elim (as_many xs ns) [
  | inl e ↦
      let P : ℕ → Type 0 = λ k. Alike Size k (applied_size Z xs t ns ns) in
      let Q : ℕ → Type 0 = λ k. Alike Size (placed Size s.weights.items (1 ∷ ns)) k in
      let b : 1 * size (bound_sizes Z xs ns) t ≡ applied_size Z xs t ns ns = (let c = applied_is Z xs t ns ns e in omega (arith, c)) in
      subst P (sym (well_called_by Size s.weights.items ns (h.long ∙ ap suc (sym e)))) (subst Q b (h.come ns (size (bound_sizes Z xs ns)) e (measures_sizes names xs ns Z f e)))
  | inr g ↦ inl (sym (miscalled_by Size s.weights.items (length ns) ns (λ e. g (let l = h.long in omega (arith, e, l))) refl) ∙ wrong_is ns ∙ sym (applied_wrong Z xs t ns ns g))
]

-- names

first_just : (ns : List ℕ) → node_over Size ns ≡ just 1 ns
first_just [] = refl
first_just (n ∷ ns) = wrong_is (n ∷ ns)

pub fit_sizes_none : FitSizes [] (λ x. just 1)
fit_sizes_none x ns = inl (first_just ns)

fit_more : (names : List BoundName) (y : BoundName) (Z : Sizes) (F : List ℕ → ℕ) → ((ns : List ℕ) → Near (by_held Size (Some y.held) ns) (F ns)) → FitSizes names Z → FitSizes (names ++ y ∷ []) (with_size Z y.name.now F)
fit_more names y Z F h f x ns =
    let P : ℕ → Type 0 = λ k. Near k (with_size Z y.name.now F x ns) in
    subst P (sym (held_more Size names y x ns)) (alike_cond Size (bytes_eq y.name.now x) (by_held Size (Some y.held) ns) (by_held Size (held_in names x) ns) (F ns) (Z x ns) (h ns) (f x ns))

pub fit_sizes_value : (names : List BoundName) (y : BoundName) (k : Sort) (Z : Sizes) → y.held ≡ Value k → FitSizes names Z → FitSizes (names ++ y ∷ []) (with_size Z y.name.now (just 1))
fit_sizes_value names y k Z e f = fit_more names y Z (just 1) (λ ns. inl (ap (λ h. by_held Size (Some h) ns) e ∙ first_just ns)) f

pub fit_sizes_function : (names : List BoundName) (y : BoundName) (s : Summary) (Z : Sizes) (F : List ℕ → ℕ) → y.held ≡ Function s → FitSizes names Z → IsSizing s.sizing F → FitSizes (names ++ y ∷ []) (with_size Z y.name.now F)
fit_sizes_function names y s Z F e f h = fit_more names y Z F (λ ns. (let P : ℕ → Type 0 = λ k. Near k (F ns) in subst P (sym (ap (λ h. by_held Size (Some h) ns) e)) (h ns))) f
