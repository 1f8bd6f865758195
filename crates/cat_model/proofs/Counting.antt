-- Lists of weights, and what counting a node does to them.
use Rattle.std.proofs.Common.{◌≡◌, ℕ, zero, suc, ◌<◌, ◌≤◌, ◌+◌, List, [], ◌∷◌, ◌++◌, length, take, get_or, cond, Bool, true, false, refl, sym, ◌∙◌, ap, subst, inl, arith, nat_eq, Result, Ok, Err}
use Rattle.std.specs.Prelude.{set, replicate, OnOk}
use Rattle.std.specs.Str.{bytes_eq}
use Rattle.std.proofs.lemmas.Bool.{eqb-true, eq-eqb, false_from_ne_true}
use Rattle.std.proofs.lemmas.List.{take_more, append_assoc, append-nil, length-replicate, length_push}
use Rattle.cat_tree.specs.Tree.{Word}
use Rattle.cat_model.specs.Weights.{Alike, beside, within, all_beside, node_over, placed, by_weights, just_weight, next_place, place_in, AreWithin, IsCounted}
use Rattle.cat_model.specs.declared.weights.Measure.{Measure}
use Rattle.cat_model.proofs.Sums.{alike_on, alike_beside, alike_within, beside_back, beside_on, beside_none, within_back, within_none, within_on, within_beside}

pub on_ok : {A F : Type 0} (r : Result A F) (P Q : Type 0) → (P → Q) → OnOk r P → OnOk r Q
on_ok (Ok k) P Q f p = f p
on_ok (Err e) P Q f p = tt

module _ (m : Measure) where
  pub none_beside : (a : ℕ) → beside m 0 a ≡ a
  none_beside a = beside_back m 0 a ∙ beside_none m a

  beside_within : (a b n : ℕ) → within m (beside m a b) n ≡ beside m (within m a n) (within m b n)
  beside_within a b n = within_back m (beside m a b) n ∙ within_beside m n a b ∙ ap (λ x. beside m x (within m n b)) (within_back m n a) ∙ ap (λ x. beside m (within m a n) x) (within_back m n b)

  swapped : (a b c : ℕ) → beside m (beside m a b) c ≡ beside m (beside m a c) b
  swapped a b c = beside_on m a b c ∙ ap (λ x. beside m a x) (beside_back m b c) ∙ sym (beside_on m a c b)

  pub placed_append : (as' bs cs ds : List ℕ) → length as' ≡ length bs → placed m (as' ++ cs) (bs ++ ds) ≡ beside m (placed m as' bs) (placed m cs ds)
  placed_append [] [] cs ds e = sym (none_beside (placed m cs ds))
  placed_append [] (b ∷ bs) cs ds e = absurd (omega (arith, e))
  placed_append (a ∷ as') [] cs ds e = absurd (omega (arith, e))
  placed_append (a ∷ as') (b ∷ bs) cs ds e =
      ap (λ x. beside m (within m a b) x) (placed_append as' bs cs ds (omega (arith, e))) ∙ sym (beside_on m (within m a b) (placed m as' bs) (placed m cs ds))

  pub placed_set : (ts ns : List ℕ) (i v w d : ℕ) → length ts ≡ length ns → i < length ts → Alike m v (beside m (get_or ts i d) w) → Alike m (placed m (set ts i v) ns) (beside m (placed m ts ns) (within m w (get_or ns i 0)))
  placed_set [] ns i v w d e l h = absurd (omega (arith, l))
  placed_set (t ∷ ts) [] i v w d e l h = absurd (omega (arith, e))
  placed_set (t ∷ ts) (n ∷ ns) zero v w d e l h =
      let P : ℕ = placed m ts ns in
      alike_on m (beside m (within m v n) P) (beside m (within m (beside m t w) n) P) (beside m (beside m (within m t n) P) (within m w n))
      (alike_beside m (within m v n) (within m (beside m t w) n) P P (alike_within m v (beside m t w) n h) (inl refl))
      (inl (ap (λ x. beside m x P) (beside_within t w n) ∙ swapped (within m t n) (within m w n) P))
  placed_set (t ∷ ts) (n ∷ ns) (suc i) v w d e l h =
      let P : ℕ = placed m ts ns in
      let W : ℕ = within m w (get_or ns i 0) in
      alike_on m (beside m (within m t n) (placed m (set ts i v) ns)) (beside m (within m t n) (beside m P W)) (beside m (beside m (within m t n) P) W)
      (alike_beside m (within m t n) (within m t n) (placed m (set ts i v) ns) (beside m P W) (inl refl) (placed_set ts ns i v w d (omega (arith, e)) (omega (arith, l)) h))
      (inl (sym (beside_on m (within m t n) P W)))

  pub zeros_placed : (n : ℕ) (ns : List ℕ) → placed m (replicate n 0) ns ≡ 0
  zeros_placed zero ns = refl
  zeros_placed (suc n) [] = refl
  zeros_placed (suc n) (k ∷ ns) = ap (λ x. beside m x (placed m (replicate n 0) ns)) (within_back m 0 k ∙ within_none m k) ∙ none_beside (placed m (replicate n 0) ns) ∙ zeros_placed n ns

  same_placed : (w : ℕ) (ns : List ℕ) → placed m (replicate (length ns) w) ns ≡ within m w (all_beside m ns)
  same_placed w [] = sym (within_none m w)
  same_placed w (n ∷ ns) = ap (λ x. beside m (within m w n) x) (same_placed w ns) ∙ sym (within_beside m w n (all_beside m ns))

  within_placed : (w : ℕ) (ps ts ns : List ℕ) → AreWithin m w ps ts → Alike m (placed m ps ns) (within m w (placed m ts ns))
  within_placed w [] [] ns h = inl (sym (within_none m w))
  within_placed w [] (t ∷ ts) ns h = absurd h
  within_placed w (p ∷ ps) [] ns h = absurd h
  within_placed w (p ∷ ps) (t ∷ ts) [] h = inl (sym (within_none m w))
  within_placed w (p ∷ ps) (t ∷ ts) (n ∷ ns) h =
      let T : ℕ = placed m ts ns in
      alike_on m (beside m (within m p n) (placed m ps ns)) (beside m (within m (within m w t) n) (within m w T)) (within m w (beside m (within m t n) T))
      (alike_beside m (within m p n) (within m (within m w t) n) (placed m ps ns) (within m w T) (alike_within m p (within m w t) n h.0) (within_placed w ps ts ns h.1))
      (inl (ap (λ x. beside m x (within m w T)) (within_on m w t n) ∙ sym (within_beside m w (within m t n) T)))

  within_long : (w : ℕ) (ps ts : List ℕ) → AreWithin m w ps ts → length ps ≡ length ts
  within_long w [] [] h = refl
  within_long w [] (t ∷ ts) h = absurd h
  within_long w (p ∷ ps) [] h = absurd h
  within_long w (p ∷ ps) (t ∷ ts) h = ap suc (within_long w ps ts h.1)

  within_push : (w : ℕ) (ps ts : List ℕ) (p t : ℕ) → AreWithin m w ps ts → Alike m p (within m w t) → AreWithin m w (ps ++ p ∷ []) (ts ++ t ∷ [])
  within_push w [] [] p t h k = (k, tt)
  within_push w [] (u ∷ ts) p t h k = absurd h
  within_push w (q ∷ ps) [] p t h k = absurd h
  within_push w (q ∷ ps) (u ∷ ts) p t h k = (h.0, within_push w ps ts p t h.1 k)

  pub within_more : (w : ℕ) (ws vs us ps : List ℕ) (p : ℕ) (ts : List ℕ) (i t : ℕ) → vs ≡ ws ++ ps → us ≡ vs ++ p ∷ [] → AreWithin m w ps (take i ts) → i < length ts → t ≡ get_or ts i t → Alike m p (within m w t) → (qs : List ℕ) × (us ≡ ws ++ qs) × AreWithin m w qs (take (i + 1) ts)
  within_more w ws vs us ps p ts i t e d h l f n =
      let P : List ℕ → Type 0 = λ xs. AreWithin m w (ps ++ p ∷ []) xs in
      (ps ++ p ∷ [], d ∙ ap (λ x. x ++ p ∷ []) e ∙ append_assoc ws ps (p ∷ []), subst P (sym (take_more ts i t l ∙ ap (λ y. take i ts ++ y ∷ []) (sym f))) (within_push w ps (take i ts) p t h n))

  -- counted

  pub counted_as : (ws vs ws' us : List ℕ) (count other w : ℕ) (F G : List ℕ → List ℕ → ℕ) → count ≡ other → ((ms ns : List ℕ) → length ns ≡ other → F ms ns ≡ G ms ns) → IsCounted m ws vs ws' us count w F → IsCounted m ws vs ws' us other w G
  counted_as ws vs ws' us count other w F G e f h = record {
    more = h.more;
    waiting = h.waiting;
    each = h.each ∙ e;
    long = h.long;
    counted = λ ms ns l k. (let P : ℕ → Type 0 = λ x. Alike m (beside m (placed m ws' (1 ∷ ms)) (placed m h.more ns)) (beside m (placed m ws (1 ∷ ms)) (within m w x)) in subst P (f ms ns k) (h.counted ms ns l (k ∙ sym e)));
  }

  pub node_counted : (ws vs ws' us : List ℕ) (count w : ℕ) → length ws' ≡ length ws → ((ns : List ℕ) → length ws ≡ length ns → Alike m (placed m ws' ns) (beside m (placed m ws ns) (within m w (get_or ns 0 0)))) → us ≡ vs ++ replicate count w →
      IsCounted m ws vs ws' us count w (λ ms ns. node_over m ns)
  node_counted ws vs ws' us count w long added e = record {
    more = replicate count w;
    waiting = e;
    each = length-replicate count w;
    long = long;
    counted = λ ms ns l k. (
        let A : ℕ = placed m ws (1 ∷ ms) in
        let T : ℕ = all_beside m ns in
        let b : placed m (replicate count w) ns ≡ within m w T = ap (λ x. placed m (replicate x w) ns) (sym k) ∙ same_placed w ns in
        alike_on m (beside m (placed m ws' (1 ∷ ms)) (placed m (replicate count w) ns)) (beside m (beside m A (within m w 1)) (within m w T)) (beside m A (within m w (beside m 1 T)))
        (alike_beside m (placed m ws' (1 ∷ ms)) (beside m A (within m w 1)) (placed m (replicate count w) ns) (within m w T) (added (1 ∷ ms) l) (inl b))
        (inl (beside_on m A (within m w 1) (within m w T) ∙ ap (λ x. beside m A x) (sym (within_beside m w 1 T)))));
  }

  pub body_counted : (ws vs ws' us : List ℕ) (w own v : ℕ) (ps times : List ℕ) → length ws' ≡ length ws → Alike m v (within m w own) → ((ns : List ℕ) → length ws ≡ length ns → Alike m (placed m ws' ns) (beside m (placed m ws ns) (within m v (get_or ns 0 0)))) →
      us ≡ vs ++ ps → AreWithin m w ps times → IsCounted m ws vs ws' us (length times) w (λ ms ns. placed m (own ∷ times) (1 ∷ ns))
  body_counted ws vs ws' us w own v ps times long inside added e h = record {
    more = ps;
    waiting = e;
    each = within_long w ps times h;
    long = long;
    counted = λ ms ns l k. (
        let A : ℕ = placed m ws (1 ∷ ms) in
        let T : ℕ = placed m times ns in
        let O : ℕ = within m own 1 in
        alike_on m (beside m (placed m ws' (1 ∷ ms)) (placed m ps ns)) (beside m (beside m A (within m v 1)) (within m w T)) (beside m A (within m w (beside m O T)))
        (alike_beside m (placed m ws' (1 ∷ ms)) (beside m A (within m v 1)) (placed m ps ns) (within m w T) (added (1 ∷ ms) l) (within_placed w ps times ns h))
        (alike_on m (beside m (beside m A (within m v 1)) (within m w T)) (beside m (beside m A (within m (within m w own) 1)) (within m w T)) (beside m A (within m w (beside m O T)))
        (alike_beside m (beside m A (within m v 1)) (beside m A (within m (within m w own) 1)) (within m w T) (within m w T) (alike_beside m A A (within m v 1) (within m (within m w own) 1) (inl refl) (alike_within m v (within m w own) 1 inside)) (inl refl))
        (inl (beside_on m A (within m (within m w own) 1) (within m w T) ∙ ap (λ x. beside m A (beside m x (within m w T))) (within_on m w own 1) ∙ ap (λ x. beside m A x) (sym (within_beside m w O T))))));
  }

  parameter_one : (ws ws' : List ℕ) (place w : ℕ) (ms ns : List ℕ) → ((ns : List ℕ) → length ws ≡ length ns → Alike m (placed m ws' ns) (beside m (placed m ws ns) (within m w (get_or ns place 0)))) → length ws ≡ suc (length ms) → length ns ≡ 0 →
      Alike m (beside m (placed m ws' (1 ∷ ms)) (placed m [] ns)) (beside m (placed m ws (1 ∷ ms)) (within m w (just_weight m (get_or (1 ∷ ms) place 0) ns)))
  parameter_one ws ws' place w ms [] added l k =
      alike_on m (beside m (placed m ws' (1 ∷ ms)) 0) (placed m ws' (1 ∷ ms)) (beside m (placed m ws (1 ∷ ms)) (within m w (get_or (1 ∷ ms) place 0))) (inl (beside_none m (placed m ws' (1 ∷ ms)))) (added (1 ∷ ms) l)
  parameter_one ws ws' place w ms (n ∷ ns) added l k = absurd (omega (arith, k))

  pub parameter_counted : (ws vs ws' us : List ℕ) (place count w : ℕ) → count ≡ 0 → length ws' ≡ length ws → ((ns : List ℕ) → length ws ≡ length ns → Alike m (placed m ws' ns) (beside m (placed m ws ns) (within m w (get_or ns place 0)))) → us ≡ vs →
      IsCounted m ws vs ws' us count w (λ ms ns. just_weight m (get_or (1 ∷ ms) place 0) ns)
  parameter_counted ws vs ws' us place count w z long added e = record {
    more = [];
    waiting = e ∙ sym (append-nil vs);
    each = sym z;
    long = long;
    counted = λ ms ns l k. parameter_one ws ws' place w ms ns added l (k ∙ z);
  }

  called_over : (n : ℕ) (ns : List ℕ) → 0 < length ns → node_over m ns ≡ just_weight m n ns
  called_over n [] l = absurd (omega (arith, l))
  called_over n (k ∷ ns) l = refl

  pub parameter_called : (ws vs ws' us : List ℕ) (place count w : ℕ) → (count ≡ 0 → ⊥) → IsCounted m ws vs ws' us count w (λ ms ns. node_over m ns) → IsCounted m ws vs ws' us count w (λ ms ns. just_weight m (get_or (1 ∷ ms) place 0) ns)
  parameter_called ws vs ws' us place count w z h = counted_as ws vs ws' us count count w (λ ms ns. node_over m ns) (λ ms ns. just_weight m (get_or (1 ∷ ms) place 0) ns) refl (λ ms ns k. called_over (get_or (1 ∷ ms) place 0) ns (omega (arith, k, z))) h

-- calls by weights

pub well_called_by : (m : Measure) (weights ns : List ℕ) → length weights ≡ suc (length ns) → by_weights m weights ns ≡ placed m weights (1 ∷ ns)
well_called_by m weights ns e = ap (λ b. cond b (placed m weights (1 ∷ ns)) (node_over m ns)) (eq-eqb (length weights) (length (1 ∷ ns)) e)

pub miscalled_by : (m : Measure) (weights : List ℕ) (count : ℕ) (ns : List ℕ) → (length weights ≡ suc count → ⊥) → length ns ≡ count → node_over m ns ≡ by_weights m weights ns
miscalled_by m weights count ns n k =
    sym (ap (λ b. cond b (placed m weights (1 ∷ ns)) (node_over m ns)) (false_from_ne_true (nat_eq (length weights) (length (1 ∷ ns))) (λ t. n (eqb-true (length weights) (length (1 ∷ ns)) t ∙ ap suc k))))

-- places of parameters

place_cond : (b c : Bool) (n k : ℕ) → next_place (cond b (suc n) k) c ≡ cond b (suc (suc n)) (next_place k c)
place_cond true c n k = refl
place_cond false c n k = refl

place_one : (b : Bool) → next_place 0 b ≡ cond b 1 0
place_one true = refl
place_one false = refl

pub place_more : (ys : List Word) (y x : Word) → place_in (ys ++ y ∷ []) x ≡ cond (bytes_eq y x) (suc (length ys)) (place_in ys x)
place_more [] y x = place_one (bytes_eq y x)
place_more (z ∷ ys) y x = ap (λ k. next_place k (bytes_eq z x)) (place_more ys y x) ∙ place_cond (bytes_eq y x) (bytes_eq z x) (length ys) (place_in ys x)

next_most : (k n : ℕ) (b : Bool) → k ≤ n → next_place k b ≤ suc n
next_most (suc k) n b l = omega (arith, l)
next_most zero n true l = omega arith
next_most zero n false l = omega arith

pub place_most : (xs : List Word) (x : Word) → place_in xs x ≤ length xs
place_most [] x = omega arith
place_most (y ∷ xs) x = next_most (place_in xs x) (length xs) (bytes_eq y x) (place_most xs x)

pub place_found : (rest before : List Word) (last x : Word) (n : ℕ) → rest ≡ before ++ last ∷ [] → bytes_eq last x ≡ true → place_in rest x ≡ n → length rest ≡ n
place_found rest before last x n e f h =
    let l = ap (λ ys. length ys) e ∙ length_push before last in
    let s : suc (length before) ≡ n = sym (ap (λ b. cond b (suc (length before)) (place_in before x)) f) ∙ sym (place_more before last x) ∙ ap (λ ys. place_in ys x) (sym e) ∙ h in
    omega (arith, l, s)

pub place_passed : (rest before : List Word) (last x : Word) (n : ℕ) → rest ≡ before ++ last ∷ [] → bytes_eq last x ≡ false → place_in rest x ≡ n → place_in before x ≡ n
place_passed rest before last x n e f h = sym (ap (λ b. cond b (suc (length before)) (place_in before x)) f) ∙ sym (place_more before last x) ∙ ap (λ ys. place_in ys x) (sym e) ∙ h
