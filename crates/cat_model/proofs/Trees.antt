-- Trees and the weights that wait for them, from the last node to the first.
use Rattle.std.proofs.Common.{◌≡◌, ℕ, suc, ◌<◌, List, [], ◌∷◌, ◌++◌, length, map, refl, sym, ◌∙◌, ap, subst, inl, arith}
use Rattle.std.specs.Prelude.{replicate}
use Rattle.std.proofs.lemmas.List.{append_assoc, append-nil, length-replicate, length-map, length_push, length-append, map-append}
use Rattle.cat_tree.specs.declared.node.Node.{Node}
use Rattle.cat_tree.specs.Terms.{latest, earlier, count_terms, postorder, postorders}
use Rattle.cat_tree.specs.Tree.{Word, Term, Terms, union, sequence, difference, intersection, product, complement, plus, star, optional, inverse, domain, range, identity, name, empty_relation, empty_set, universe, call, no_terms, term}
use Rattle.cat_model.specs.declared.scope.BoundName.{BoundName}
use Rattle.cat_model.specs.declared.weights.Measure.{Measure}
use Rattle.cat_model.specs.Weights.{Alike, beside, within, placed, made, arity, root, listed, operands, all_nodes, Measures, AreWeights, Kept, IsStep}
use Rattle.cat_model.proofs.Sums.{alike_on, alike_beside, alike_within, beside_back, beside_on, beside_none, within_back}
use Rattle.cat_model.proofs.Counting.{placed_append, zeros_placed, none_beside}

-- a tree's nodes are those of its operands and its last

listed_nodes : (bs : Terms) → all_nodes (listed bs) ≡ postorders bs
listed_nodes no_terms = refl
listed_nodes (term a bs) = ap (λ ns. postorder a ++ ns) (listed_nodes bs)

listed_long : (bs : Terms) → length (listed bs) ≡ count_terms bs
listed_long no_terms = refl
listed_long (term a bs) = ap suc (listed_long bs)

two_last : (xs ys : List Node) (n : Node) → xs ++ (ys ++ n ∷ []) ≡ (xs ++ (ys ++ [])) ++ n ∷ []
two_last xs ys n = sym (append_assoc xs (ys ++ []) (n ∷ []) ∙ ap (λ zs. xs ++ (zs ++ n ∷ [])) (append-nil ys))

one_last : (xs : List Node) (n : Node) → xs ++ n ∷ [] ≡ (xs ++ []) ++ n ∷ []
one_last xs n = ap (λ zs. zs ++ n ∷ []) (sym (append-nil xs))

root_last : (t : Term) → postorder t ≡ all_nodes (operands t) ++ root t ∷ []
root_last (union a b) = two_last (postorder a) (postorder b) (root (union a b))
root_last (sequence a b) = two_last (postorder a) (postorder b) (root (sequence a b))
root_last (difference a b) = two_last (postorder a) (postorder b) (root (difference a b))
root_last (intersection a b) = two_last (postorder a) (postorder b) (root (intersection a b))
root_last (product a b) = two_last (postorder a) (postorder b) (root (product a b))
root_last (complement a) = one_last (postorder a) (root (complement a))
root_last (plus a) = one_last (postorder a) (root (plus a))
root_last (star a) = one_last (postorder a) (root (star a))
root_last (optional a) = one_last (postorder a) (root (optional a))
root_last (inverse a) = one_last (postorder a) (root (inverse a))
root_last (domain a) = one_last (postorder a) (root (domain a))
root_last (range a) = one_last (postorder a) (root (range a))
root_last (identity a) = one_last (postorder a) (root (identity a))
root_last (name x) = refl
root_last empty_relation = refl
root_last empty_set = refl
root_last universe = refl
root_last (call f bs) = ap (λ ns. ns ++ root (call f bs) ∷ []) (sym (listed_nodes bs))

arity_is : (t : Term) → length (operands t) ≡ arity (root t)
arity_is (union a b) = refl
arity_is (sequence a b) = refl
arity_is (difference a b) = refl
arity_is (intersection a b) = refl
arity_is (product a b) = refl
arity_is (complement a) = refl
arity_is (plus a) = refl
arity_is (star a) = refl
arity_is (optional a) = refl
arity_is (inverse a) = refl
arity_is (domain a) = refl
arity_is (range a) = refl
arity_is (identity a) = refl
arity_is (name x) = refl
arity_is empty_relation = refl
arity_is empty_set = refl
arity_is universe = refl
arity_is (call f bs) = listed_long bs

nodes_append : (as' bs : List Term) → all_nodes (as' ++ bs) ≡ all_nodes as' ++ all_nodes bs
nodes_append [] bs = refl
nodes_append (a ∷ as') bs = ap (λ ns. postorder a ++ ns) (nodes_append as' bs) ∙ sym (append_assoc (postorder a) (all_nodes as') (all_nodes bs))

last_nodes : (us : List Term) (t : Term) → all_nodes (us ++ t ∷ []) ≡ all_nodes (us ++ operands t) ++ root t ∷ []
last_nodes us t =
    nodes_append us (t ∷ []) ∙ ap (λ ns. all_nodes us ++ ns) (append-nil (postorder t) ∙ root_last t) ∙ sym (append_assoc (all_nodes us) (all_nodes (operands t)) (root t ∷ [])) ∙
    ap (λ ns. ns ++ root t ∷ []) (sym (nodes_append us (operands t)))

last_of : (ts : List Term) → 0 < length ts → (us : List Term) × (t : Term) × (ts ≡ us ++ t ∷ [])
last_of [] l = absurd (omega (arith, l))
last_of (t ∷ []) l = ([], t, refl)
last_of (t ∷ (u ∷ us)) l = (let r = last_of (u ∷ us) (omega arith) in (t ∷ r.0, r.1, ap (λ vs. t ∷ vs) r.2))

same_last : (ms ns : List Node) (m n : Node) → ms ++ m ∷ [] ≡ ns ++ n ∷ [] → (ms ≡ ns) × (m ≡ n)
same_last [] [] m n e = (refl, ap (λ l. latest m l) e)
same_last [] (k ∷ ns) m n e = (let l = ap (λ l. length l) e in let p = length_push ns n in absurd (omega (arith, l, p)))
same_last (k ∷ ms) [] m n e = (let l = ap (λ l. length l) e in let p = length_push ms m in absurd (omega (arith, l, p)))
same_last (k ∷ ms) (j ∷ ns) m n e =
    let h = same_last ms ns m n (ap (λ l. earlier l) e) in
    let f : k ≡ j = ap (λ l. latest k l) e in
    (ap (λ l. l ∷ ms) f ∙ ap (λ l. j ∷ l) h.0, h.1)

none_of : {A : Type 0} (xs : List A) → length xs ≡ 0 → xs ≡ []
none_of [] e = refl
none_of (x ∷ xs) e = absurd (omega (arith, e))

no_trees : (ts : List Term) → length (all_nodes ts) ≡ 0 → ts ≡ []
no_trees [] e = refl
no_trees (t ∷ ts) e =
    let a = length-append (postorder t) (all_nodes ts) in
    let b : length (postorder t) ≡ length (all_nodes (operands t) ++ root t ∷ []) = ap (λ l. length l) (root_last t) in
    let d = length_push (all_nodes (operands t)) (root t) in
    absurd (omega (arith, e, a, b, d))

module _ (m : Measure) (names : List BoundName) (xs : List Word) where
  alike_inside : (w a b : ℕ) → Alike m a b → Alike m (within m w a) (within m w b)
  alike_inside w a b h =
      let P : ℕ → Type 0 = λ x. Alike m x (within m w b) in
      let Q : ℕ → Type 0 = λ x. Alike m (within m a w) x in
      subst P (within_back m a w) (subst Q (within_back m b w) (alike_within m a b w h))

  pub kept_first : (t : Term) (w : ℕ) (ahead : List Node) (ws waiting : List ℕ) → ahead ≡ postorder t → ws ≡ replicate (suc (length xs)) 0 → waiting ≡ w ∷ [] → Kept m names xs t w ahead ws waiting
  kept_first t w ahead ws waiting e f g = record {
    long = ap (λ l. length l) f ∙ length-replicate (suc (length xs)) 0;
    trees = t ∷ [];
    lie = append-nil (postorder t) ∙ sym e;
    each = ap (λ l. length l) g;
    come = λ ms V l M. inl (ap (λ u. beside m (placed m u (1 ∷ ms)) (placed m waiting (V t ∷ []))) f ∙ ap (λ x. beside m x (placed m waiting (V t ∷ []))) (zeros_placed m (suc (length xs)) (1 ∷ ms)) ∙ none_beside m (placed m waiting (V t ∷ [])) ∙
        ap (λ u. placed m u (V t ∷ [])) g ∙ beside_none m (within m w (V t)));
  }

  pub kept_last : (t : Term) (w : ℕ) (ahead : List Node) (ws waiting : List ℕ) → length ahead ≡ 0 → Kept m names xs t w ahead ws waiting → AreWeights m names xs t w ws
  kept_last t w ahead ws waiting z k =
      let e : k.trees ≡ [] = no_trees k.trees (ap (λ l. length l) k.lie ∙ z) in
      let f : waiting ≡ [] = none_of waiting (k.each ∙ ap (λ l. length l) e) in
      record {
        long = k.long;
        come = λ ms V l M. (let P : ℕ → Type 0 = λ x. Alike m x (within m w (V t)) in
            subst P (ap (λ u. beside m (placed m ws (1 ∷ ms)) (placed m u (map V k.trees))) f ∙ beside_none m (placed m ws (1 ∷ ms))) (k.come ms V l M));
      }

  step_come : (t u : Term) (w v : ℕ) (n : Node) (ws ws' others more : List ℕ) (us : List Term) (ms : List ℕ) (V : Term → ℕ) → root u ≡ n → length others ≡ length us → Measures m names xs ms V →
      Alike m (beside m (placed m ws' (1 ∷ ms)) (placed m more (map V (operands u)))) (beside m (placed m ws (1 ∷ ms)) (within m v (made m names xs ms n (map V (operands u))))) →
      Alike m (beside m (placed m ws (1 ∷ ms)) (placed m (others ++ v ∷ []) (map V (us ++ u ∷ [])))) (within m w (V t)) → Alike m (beside m (placed m ws' (1 ∷ ms)) (placed m (others ++ more) (map V (us ++ operands u)))) (within m w (V t))
  step_come t u w v n ws ws' others more us ms V r l M c k =
      let A : ℕ = placed m ws (1 ∷ ms) in
      let B : ℕ = placed m ws' (1 ∷ ms) in
      let O : ℕ = placed m others (map V us) in
      let N : ℕ = placed m more (map V (operands u)) in
      let G : ℕ = made m names xs ms n (map V (operands u)) in
      let P : Node → Type 0 = λ x. Alike m (made m names xs ms x (map V (operands u))) (V u) in
      let a : placed m (others ++ more) (map V (us ++ operands u)) ≡ beside m O N = ap (λ l. placed m (others ++ more) l) (map-append V us (operands u)) ∙ placed_append m others (map V us) more (map V (operands u)) (l ∙ sym (length-map us V)) in
      let b : placed m (others ++ v ∷ []) (map V (us ++ u ∷ [])) ≡ beside m O (within m v (V u)) =
      ap (λ l. placed m (others ++ v ∷ []) l) (map-append V us (u ∷ [])) ∙ placed_append m others (map V us) (v ∷ []) (V u ∷ []) (l ∙ sym (length-map us V)) ∙ ap (λ x. beside m O x) (beside_none m (within m v (V u))) in
      let d : Alike m (within m v G) (within m v (V u)) = alike_inside v G (V u) (subst P r (M u)) in
      let h : Alike m (beside m B N) (beside m A (within m v (V u))) = alike_on m (beside m B N) (beside m A (within m v G)) (beside m A (within m v (V u))) c (alike_beside m A A (within m v G) (within m v (V u)) (inl refl) d) in
      alike_on m (beside m B (placed m (others ++ more) (map V (us ++ operands u)))) (beside m (beside m B N) O) (within m w (V t))
      (inl (ap (λ x. beside m B x) (a ∙ beside_back m O N) ∙ sym (beside_on m B N O)))
      (alike_on m (beside m (beside m B N) O) (beside m (beside m A (within m v (V u))) O) (within m w (V t)) (alike_beside m (beside m B N) (beside m A (within m v (V u))) O O h (inl refl))
      (alike_on m (beside m (beside m A (within m v (V u))) O) (beside m A (placed m (others ++ v ∷ []) (map V (us ++ u ∷ [])))) (within m w (V t))
      (inl (beside_on m A (within m v (V u)) O ∙ ap (λ x. beside m A x) (beside_back m (within m v (V u)) O ∙ sym b))) k))

  pub kept_more : (t : Term) (w : ℕ) (n : Node) (ahead before : List Node) (ws waiting ws' waiting' : List ℕ) → ahead ≡ before ++ n ∷ [] → IsStep m names xs n ws waiting ws' waiting' → Kept m names xs t w ahead ws waiting → Kept m names xs t w before ws' waiting'
  kept_more t w n ahead before ws waiting ws' waiting' e s k =
      let p = ap (λ l. length l) s.popped ∙ length_push s.others s.w in
      let q = k.each in
      let r = last_of k.trees (omega (arith, p, q)) in
      let us : List Term = r.0 in
      let u : Term = r.1 in
      let i = same_last (all_nodes (us ++ operands u)) before (root u) n (sym (last_nodes us u) ∙ ap (λ l. all_nodes l) (sym r.2) ∙ k.lie ∙ e) in
      let long : length s.others ≡ length us = (let f = ap (λ l. length l) r.2 ∙ length_push us u in omega (arith, p, q, f)) in
      let c = s.counted in
      let some : length (operands u) ≡ arity n = arity_is u ∙ ap (λ x. arity x) i.1 in
      record {
        long = c.long ∙ k.long;
        trees = us ++ operands u;
        lie = i.0;
        each = (let a = ap (λ l. length l) c.waiting ∙ length-append s.others c.more in let b = length-append us (operands u) in let d = c.each in omega (arith, a, b, d, some, long));
        come = λ ms V l M. (
            let P : List ℕ → Type 0 = λ y. Alike m (beside m (placed m ws' (1 ∷ ms)) (placed m y (map V (us ++ operands u)))) (within m w (V t)) in
            let Q : List ℕ → Type 0 = λ y. Alike m (beside m (placed m ws (1 ∷ ms)) (placed m y (map V (us ++ u ∷ [])))) (within m w (V t)) in
            let R : List Term → Type 0 = λ y. Alike m (beside m (placed m ws (1 ∷ ms)) (placed m waiting (map V y))) (within m w (V t)) in
            subst P (sym c.waiting) (step_come t u w s.w n ws ws' s.others c.more us ms V i.1 long M
            (c.counted ms (map V (operands u)) (k.long ∙ ap suc (sym l)) (length-map (operands u) V ∙ some)) (subst Q s.popped (subst R r.2 (k.come ms V l M)))));
      }
