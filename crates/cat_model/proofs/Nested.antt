-- Depths as weights.
use Rattle.std.proofs.Common.{◌≡◌, ℕ, zero, suc, ◌+◌, ◌-◌, List, [], ◌∷◌, ◌++◌, length, map, Some, cond, Bool, true, false, refl, sym, ◌∙◌, ap, subst, inl, inr, arith}
use Rattle.std.specs.Prelude.{max}
use Rattle.std.specs.Str.{bytes_eq}
use Rattle.std.proofs.lemmas.List.{length-map}
use Rattle.cat_tree.specs.Tree.{Word, Term, Terms, union, sequence, difference, intersection, product, complement, plus, star, optional, inverse, domain, range, identity, name, empty_relation, empty_set, universe, call, no_terms, term}
use Rattle.cat_model.specs.Lookups.{held_in}
use Rattle.cat_model.specs.Depths.{Depths, deepest, depth, depths, with_depth, just_depth, applied_depth}
use Rattle.cat_model.specs.Nesting.{NearDepth, Weighs, IsNesting, FitDepths}
use Rattle.cat_model.specs.declared.depths.Nesting.{Nesting}
use Rattle.cat_model.specs.declared.scope.BoundName.{BoundName}
use Rattle.cat_model.specs.declared.scope.Held.TheVariants.{Value, Function}
use Rattle.cat_model.specs.declared.scope.Summary.{Summary}
use Rattle.cat_model.specs.declared.sort.Sort.{Sort}
use Rattle.cat_model.specs.declared.weights.Measure.TheVariants.{Depth}
use Rattle.cat_model.specs.Weights.{Alike, node_over, placed, by_held, deeper, just_weight, given, place_in, told, listed, Measures, AreWeights}
use Rattle.cat_model.proofs.Counting.{miscalled_by, well_called_by}
use Rattle.cat_model.proofs.Fitting.{given_more, alike_cond, as_many, held_more}

deepest_is : (ns : List ℕ) → node_over Depth (map suc ns) ≡ suc (deepest ns)
deepest_is [] = omega arith
deepest_is (n ∷ ns) = let h = deepest_is ns in omega (arith, h)

just_is : (k : ℕ) (ns : List ℕ) → just_weight Depth (suc k) (map suc ns) ≡ suc (just_depth k ns)
just_is k [] = refl
just_is k (n ∷ ns) = deepest_is (n ∷ ns)

-- parameters

abbrev bound_depths : Depths → List Word → List ℕ → Depths
bound_depths D [] ms = D
bound_depths D (x ∷ xs) [] = D
bound_depths D (x ∷ xs) (m ∷ ms) = bound_depths (with_depth D x (just_depth m)) xs ms

applied_is : (D : Depths) (xs : List Word) (t : Term) (ns all : List ℕ) → length ns ≡ length xs → applied_depth D xs t ns all ≡ 1 + depth (bound_depths D xs ns) t
applied_is D [] t [] all e = refl
applied_is D [] t (n ∷ ns) all e = absurd (omega (arith, e))
applied_is D (x ∷ xs) t [] all e = absurd (omega (arith, e))
applied_is D (x ∷ xs) t (n ∷ ns) all e = applied_is (with_depth D x (just_depth n)) xs t ns all (omega (arith, e))

applied_wrong : (D : Depths) (xs : List Word) (t : Term) (ns all : List ℕ) → (length ns ≡ length xs → ⊥) → applied_depth D xs t ns all ≡ deepest all
applied_wrong D [] t [] all f = absurd (f refl)
applied_wrong D [] t (n ∷ ns) all f = refl
applied_wrong D (x ∷ xs) t [] all f = refl
applied_wrong D (x ∷ xs) t (n ∷ ns) all f = applied_wrong (with_depth D x (just_depth n)) xs t ns all (λ e. f (ap suc e))

cond_suc : (b : Bool) (p q : ℕ) → cond b (suc p) (suc q) ≡ suc (cond b p q)
cond_suc true p q = refl
cond_suc false p q = refl

told_depths : (D : Depths) (xs : List Word) (ms : List ℕ) (x : Word) (ns : List ℕ) (e : ℕ) → length ms ≡ length xs → Weighs e (D x ns) → Weighs (given Depth (place_in xs x) (map suc ms) (map suc ns) e) (bound_depths D xs ms x ns)
told_depths D [] ms x ns e l h = h
told_depths D (y ∷ ys) [] x ns e l h = absurd (omega (arith, l))
told_depths D (y ∷ ys) (m ∷ ms) x ns e l h =
    let P : ℕ → Type 0 = λ k. Weighs k (bound_depths (with_depth D y (just_depth m)) ys ms x ns) in
    let Q : ℕ → Type 0 = λ k. Alike Depth (cond (bytes_eq y x) (just_weight Depth (suc m) (map suc ns)) e) k in
    subst P (sym (given_more Depth y ys x (suc m) (map suc ms) (map suc ns) e)) (told_depths (with_depth D y (just_depth m)) ys ms x ns (cond (bytes_eq y x) (just_weight Depth (suc m) (map suc ns)) e) (omega (arith, l))
    (subst Q (cond_suc (bytes_eq y x) (just_depth m ns) (D x ns)) (alike_cond Depth (bytes_eq y x) (just_weight Depth (suc m) (map suc ns)) e (suc (just_depth m ns)) (suc (D x ns)) (inl (just_is m ns)) h)))

abbrev weight_in : Depths → Term → ℕ
weight_in D t = suc (depth D t)

weights_of : (D : Depths) (bs : Terms) → map (weight_in D) (listed bs) ≡ map suc (depths D bs)
weights_of D no_terms = refl
weights_of D (term a bs) = ap (λ l. suc (depth D a) ∷ l) (weights_of D bs)

one_over : (a : ℕ) → node_over Depth (suc a ∷ []) ≡ suc a
one_over a = omega arith

two_over : (a b : ℕ) → node_over Depth (suc a ∷ suc b ∷ []) ≡ suc (max a b)
two_over a b = omega arith

none_over : node_over Depth [] ≡ 1
none_over = omega arith

measures_depths : (names : List BoundName) (xs : List Word) (ms : List ℕ) (D : Depths) → FitDepths names D → length ms ≡ length xs → Measures Depth names xs (map suc ms) (weight_in (bound_depths D xs ms))
measures_depths names xs ms D f l (union a b) = inl (two_over _ _)
measures_depths names xs ms D f l (sequence a b) = inl (two_over _ _)
measures_depths names xs ms D f l (difference a b) = inl (two_over _ _)
measures_depths names xs ms D f l (intersection a b) = inl (two_over _ _)
measures_depths names xs ms D f l (product a b) = inl (two_over _ _)
measures_depths names xs ms D f l (complement a) = inl (one_over _)
measures_depths names xs ms D f l (plus a) = inl (one_over _)
measures_depths names xs ms D f l (star a) = inl (one_over _)
measures_depths names xs ms D f l (optional a) = inl (one_over _)
measures_depths names xs ms D f l (inverse a) = inl (one_over _)
measures_depths names xs ms D f l (domain a) = inl (one_over _)
measures_depths names xs ms D f l (range a) = inl (one_over _)
measures_depths names xs ms D f l (identity a) = inl (one_over _)
measures_depths names xs ms D f l (name x) = told_depths D xs ms x [] (by_held Depth (held_in names x) []) l (f x [])
measures_depths names xs ms D f l empty_relation = inl none_over
measures_depths names xs ms D f l empty_set = inl none_over
measures_depths names xs ms D f l universe = inl none_over
measures_depths names xs ms D f l (call g bs) =
    let E : Depths = bound_depths D xs ms in
    let P : List ℕ → Type 0 = λ l. Weighs (told Depth names xs (map suc ms) g l) (E g (depths E bs)) in
    subst P (sym (weights_of E bs)) (told_depths D xs ms g (depths E bs) (by_held Depth (held_in names g) (map suc (depths E bs))) l (f g (depths E bs)))

-- what is made of weights

near_by : (n d : ℕ) → Weighs n d → NearDepth (n - 1) d
near_by n d (inl e) = inl (omega (arith, e))
near_by n d (inr h) = (let a = h.0 in let b = h.1 in inr (omega (arith, a), omega (arith, b)))

deeper_by : (n d : ℕ) → deeper n 1 ≡ n
deeper_by zero d = refl
deeper_by (suc n) d = omega arith

pub depth_by : (names : List BoundName) (t : Term) (ws : List ℕ) (n : ℕ) → AreWeights Depth names [] t 1 ws → ws ≡ n ∷ [] → (D : Depths) → FitDepths names D → NearDepth (n - 1) (depth D t)
depth_by names t ws n h e D f =
    let P : ℕ → Type 0 = λ k. Alike Depth k (deeper 1 (suc (depth D t))) in
    let Q : ℕ → Type 0 = λ k. Alike Depth n k in
    let c = deeper_by n 0 in
    let a : placed Depth ws (1 ∷ []) ≡ n = ap (λ l. placed Depth l (1 ∷ [])) e ∙ omega (arith, c) in
    let b : deeper 1 (suc (depth D t)) ≡ suc (depth D t) = omega arith in
    near_by n (depth D t) (subst Q b (subst P a (h.come [] (weight_in D) refl (measures_depths names [] [] D f refl))))

pub nesting_by : (names : List BoundName) (xs : List Word) (t : Term) (s : Nesting) → AreWeights Depth names xs t 2 s.weights.items → (D : Depths) → FitDepths names D → IsNesting s (λ ns. applied_depth D xs t ns ns)
nesting_by names xs t s h D f ns = elim (as_many xs ns) [
  | inl e ↦
      let P : ℕ → Type 0 = λ k. Weighs k (applied_depth D xs t ns ns) in
      let Q : ℕ → Type 0 = λ k. Alike Depth (placed Depth s.weights.items (1 ∷ map suc ns)) k in
      let b : deeper 2 (suc (depth (bound_depths D xs ns) t)) ≡ suc (applied_depth D xs t ns ns) = (let c = applied_is D xs t ns ns e in omega (arith, c)) in
      let long : length (map suc ns) ≡ length xs = length-map ns suc ∙ e in
      subst P (sym (well_called_by Depth s.weights.items (map suc ns) (h.long ∙ ap suc (sym long)))) (subst Q b (h.come (map suc ns) (weight_in (bound_depths D xs ns)) long (measures_depths names xs ns D f e)))
  | inr g ↦
      let long : length (map suc ns) ≡ length ns = length-map ns suc in
      inl (sym (miscalled_by Depth s.weights.items (length ns) (map suc ns) (λ e. g (let l = h.long in omega (arith, e, l))) long) ∙ deepest_is ns ∙ ap suc (sym (applied_wrong D xs t ns ns g)))
]

-- names

first_just : (ns : List ℕ) → node_over Depth (map suc ns) ≡ suc (just_depth 0 ns)
first_just [] = omega arith
first_just (n ∷ ns) = deepest_is (n ∷ ns)

pub fit_depths_none : FitDepths [] (λ x. just_depth 0)
fit_depths_none x ns = inl (first_just ns)

fit_more : (names : List BoundName) (y : BoundName) (D : Depths) (F : List ℕ → ℕ) → ((ns : List ℕ) → Weighs (by_held Depth (Some y.held) (map suc ns)) (F ns)) → FitDepths names D → FitDepths (names ++ y ∷ []) (with_depth D y.name.now F)
fit_more names y D F h f x ns =
    let P : ℕ → Type 0 = λ k. Weighs k (with_depth D y.name.now F x ns) in
    let Q : ℕ → Type 0 = λ k. Alike Depth (cond (bytes_eq y.name.now x) (by_held Depth (Some y.held) (map suc ns)) (by_held Depth (held_in names x) (map suc ns))) k in
    subst P (sym (held_more Depth names y x (map suc ns)))
    (subst Q (cond_suc (bytes_eq y.name.now x) (F ns) (D x ns)) (alike_cond Depth (bytes_eq y.name.now x) (by_held Depth (Some y.held) (map suc ns)) (by_held Depth (held_in names x) (map suc ns)) (suc (F ns)) (suc (D x ns)) (h ns) (f x ns)))

pub fit_depths_value : (names : List BoundName) (y : BoundName) (k : Sort) (D : Depths) → y.held ≡ Value k → FitDepths names D → FitDepths (names ++ y ∷ []) (with_depth D y.name.now (just_depth 0))
fit_depths_value names y k D e f = fit_more names y D (just_depth 0) (λ ns. inl (ap (λ h. by_held Depth (Some h) (map suc ns)) e ∙ first_just ns)) f

pub fit_depths_function : (names : List BoundName) (y : BoundName) (s : Summary) (D : Depths) (F : List ℕ → ℕ) → y.held ≡ Function s → FitDepths names D → IsNesting s.nesting F → FitDepths (names ++ y ∷ []) (with_depth D y.name.now F)
fit_depths_function names y s D F e f h = fit_more names y D F (λ ns. (let P : ℕ → Type 0 = λ k. Weighs k (F ns) in subst P (sym (ap (λ h. by_held Depth (Some h) (map suc ns)) e)) (h ns))) f
