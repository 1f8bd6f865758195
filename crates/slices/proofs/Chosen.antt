-- What is chosen by number, digit by digit.
use Rattle.std.proofs.Common.{◌≡◌, ℕ, zero, suc, ◌+◌, ◌-◌, ◌*◌, ◌/◌, ◌%◌, ◌<◌, ◌≤◌, ◌^◌, List, [], ◌∷◌, ◌++◌, length, drop, get_or, nat_lt, if◌then◌else◌, Bool, true, false, unwrap_or, append_assoc, append-nil, refl, sym, ◌∙◌, ap, subst, inl, inr, arith}
use Rattle.std.specs.Prelude.{slice_get, ◌↔◌}
use Rattle.std.proofs.Math.ListN.{drop_of_length-le}
use Rattle.std.proofs.Math.Seq.{drop-cons}
use Rattle.std.proofs.Math.Nat.{mul_assoc, mul_comm, one-mul, mul-one, mul-le-mul_right, mul-le-mul_left}
use Rattle.std.proofs.lemmas.Bool.{lt-ltb, le-ltb, cases_lt}
use Rattle.listings.specs.Lists.{product_by}
use Rattle.listings.specs.Numbered.{digits}
use Rattle.candidates.specs.Blocks.{placings}
use Rattle.slices.specs.Finals.{last_or}
use Rattle.events.specs.declared.event.EventId.{EventId}
use Rattle.slices.specs.declared.ways.Shares.{Shares}
use Rattle.slices.specs.Ways.{AreShares, IsSound, WaysValue, size_of_ways, count_of_ways, weight_of_way, way, share, rest, weight_by}
use Rattle.slices.proofs.Opened.{placings_more}
use Rattle.slices.proofs.Picked.{some_placings, next_below}

placings_next : (n k : ℕ) → k < n → placings n k ≤ placings n (suc k)
placings_next n k l =
    let e = placings_more n k l in
    let p : ℕ = placings n k in
    let h : p * 1 ≤ p * (n - k) = mul-le-mul_left p (omega (arith, l)) in
    omega (arith, e, h, mul-one p)

placings_rise : (n k m : ℕ) → k + m ≤ n → placings n k ≤ placings n (k + m)
placings_rise n k zero l = let e : k + 0 ≡ k = omega arith in let h : placings n (k + 0) ≡ placings n k = ap (placings n) e in omega (arith, h)
placings_rise n k (suc m) l =
    let e : suc (k + m) ≡ k + suc m = omega arith in
    let h : placings n (suc (k + m)) ≡ placings n (k + suc m) = ap (placings n) e in
    omega (arith, placings_rise n k m (omega (arith, l)), placings_next n (k + m) (omega (arith, l)), h)

-- one write more is placed
pub one_placed : (n k m : ℕ) (count most : ℕ) → count ≡ placings n k → k < m → m ≤ n → placings n m ≤ most → (count * (n - k) ≡ placings n (k + 1)) × (count * (n - k) ≤ most)
one_placed n k m count most e l u few =
    let next : suc k ≡ k + 1 = omega arith in
    let is : count * (n - k) ≡ placings n (k + 1) = ap (λ x. x * (n - k)) e ∙ sym (placings_more n k (omega (arith, l, u))) ∙ ap (placings n) next in
    let s : suc k + (m - suc k) ≡ m = omega (arith, l) in
    let rise : placings n (suc k) ≤ placings n (suc k + (m - suc k)) = placings_rise n (suc k) (m - suc k) (omega (arith, l, u)) in
    (is, omega (arith, is, ap (placings n) next, rise, ap (placings n) s, few))

last_is : (w v : EventId) (vs : List EventId) → unwrap_or (slice_get (v ∷ vs) (length vs)) w ≡ last_or w (v ∷ vs)
last_is w v [] = refl
last_is w v (u ∷ us) = last_is w u us

pub last_of : (w : EventId) (vs : List EventId) → unwrap_or (slice_get vs (length vs - 1)) w ≡ last_or w vs
last_of w [] = refl
last_of w (v ∷ vs) =
    let less : length (v ∷ vs) - 1 ≡ length vs = omega arith in
    ap (λ n. unwrap_or (slice_get (v ∷ vs) n) w) less ∙ last_is w v vs

pub way_behind : (w : WaysValue) (c : ℕ) → w.seen ≡ true → w.opened ≤ c → way w c ≡ last_or w.initial w.writes
way_behind w c s l =
    ap (λ b. if b then (if nat_lt c w.opened then get_or w.writes c w.initial else last_or w.initial w.writes) else w.initial) s ∙
    ap (λ b. if b then get_or w.writes c w.initial else last_or w.initial w.writes) (le-ltb c w.opened l)

-- the share of the last one
pub rest_is : (n k share' : ℕ) → 1 ≤ k → k ≤ n - 1 → share' ≡ placings (n - 1) (k - 1) → (share' ≡ share n k) × (share' * (n - k) ≡ rest n k) × (share' * (n - k) ≤ placings n k) × (share' ≤ placings n k)
rest_is n zero s l u e = absurd (omega (arith, l))
rest_is zero (suc k) s l u e = absurd (omega (arith, u))
rest_is (suc n) (suc k) s l u e =
    let a : suc n - 1 ≡ n = omega arith in
    let b : suc k - 1 ≡ k = omega arith in
    let is : s ≡ placings n k = e ∙ ap (λ x. placings x (suc k - 1)) a ∙ ap (placings n) b in
    let p : ℕ = placings n k in
    let c : suc n * p ≡ p * suc n = mul_comm (suc n) p in
    let m1 : p * (suc n - suc k) ≤ p * suc n = mul-le-mul_left p (omega arith) in
    let m2 : p * 1 ≤ p * suc n = mul-le-mul_left p (omega arith) in
    let f : s * (suc n - suc k) ≡ p * (suc n - suc k) = ap (λ x. x * (suc n - suc k)) is in
    (is, f, omega (arith, f, m1, c), omega (arith, is, m2, mul-one p, c))

product_positive : (ws : List WaysValue) → 1 ≤ product_by size_of_ways ws
product_positive [] = omega arith
product_positive (w ∷ ws) =
    let a : ℕ = size_of_ways w in
    let b : ℕ = product_by size_of_ways ws in
    let h : 1 * b ≤ a * b = mul-le-mul_right b (some_placings (length w.writes) w.opened) in
    omega (arith, h, one-mul b, product_positive ws)

some_times : (a s p m : ℕ) → 1 ≤ a → 1 ≤ p → a * (s * p) ≤ m → s ≤ m
some_times a s p m l u h =
    let x : s * 1 ≤ s * p = mul-le-mul_left s u in
    let y : 1 * (s * p) ≤ a * (s * p) = mul-le-mul_right (s * p) l in
    omega (arith, x, y, h, mul-one s, one-mul (s * p))

less_times : (a k s p m : ℕ) → k ≤ s → a * (s * p) ≤ m → a * k * p ≤ m
less_times a k s p m l h =
    let x : k * p ≤ s * p = mul-le-mul_right p l in
    let y : a * (k * p) ≤ a * (s * p) = mul-le-mul_left a x in
    omega (arith, mul_assoc a k p, y, h)

less_one : (a k s p m : ℕ) → k ≤ s → 1 ≤ p → a * (s * p) ≤ m → a * k ≤ m
less_one a k s p m l u h =
    let x : a * k * 1 ≤ a * k * p = mul-le-mul_left (a * k) u in
    omega (arith, x, less_times a k s p m l h, mul-one (a * k))

-- What has been chosen of the first ones by the first digits.
pub record Chosen (ws : List WaysValue) (number i left w : ℕ) (vs : List EventId) : Type 0 where
  pub lasts : vs ++ digits count_of_ways way (drop i ws) left ≡ digits count_of_ways way ws number
  pub weight : w * weight_by count_of_ways weight_of_way (drop i ws) left ≡ weight_by count_of_ways weight_of_way ws number
  pub most : w * product_by size_of_ways (drop i ws) ≤ 2 ^ 32
  pub some : 1 ≤ w
  pub below : (left < product_by count_of_ways (drop i ws)) ↔ (number < product_by count_of_ways ws)

dropped : (ws : List WaysValue) (i : ℕ) (w : WaysValue) → i < length ws → w ≡ get_or ws i w → drop i ws ≡ w ∷ drop (i + 1) ws
dropped ws i w l e =
    let next : suc i ≡ i + 1 = omega arith in
    drop-cons ws i w l ∙ ap (λ x. x ∷ drop (suc i) ws) (sym e) ∙ ap (λ n. w ∷ drop n ws) next

pub fits_both : (ws : List WaysValue) (number i left weight : ℕ) (lasts : List EventId) (w : WaysValue) (k : ℕ) → Chosen ws number i left weight lasts → i < length ws → w ≡ get_or ws i w → k ≤ size_of_ways w → weight * k ≤ 2 ^ 32
fits_both ws number i left weight lasts w k h l e m =
    let P : List WaysValue → Type 0 = λ xs. weight * product_by size_of_ways xs ≤ 2 ^ 32 in
    less_one weight k (size_of_ways w) (product_by size_of_ways (drop (i + 1) ws)) (2 ^ 32) m (product_positive (drop (i + 1) ws)) (subst P (dropped ws i w l e) h.most)

pub chosen_more : (ws : List WaysValue) (number i left weight : ℕ) (lasts lasts' : List EventId) (w : WaysValue) (count k : ℕ) (v : EventId) → Chosen ws number i left weight lasts → i < length ws → w ≡ get_or ws i w → count ≡ count_of_ways w →
    k ≡ weight_of_way w (left % count) → k ≤ size_of_ways w → 1 ≤ k → v ≡ way w (left % count) → lasts' ≡ lasts ++ v ∷ [] → Chosen ws number (i + 1) (left / count) (weight * k) lasts'
chosen_more ws number i left weight lasts lasts' w count k v h l e c is m s last push =
    let d : drop i ws ≡ w ∷ drop (i + 1) ws = dropped ws i w l e in
    let rest' : List WaysValue = drop (i + 1) ws in
    let n : ℕ = count_of_ways w in
    let P : List WaysValue → Type 0 = λ xs. weight * product_by size_of_ways xs ≤ 2 ^ 32 in
    let B : List WaysValue → Type 0 = λ xs. (left < product_by count_of_ways xs) ↔ (number < product_by count_of_ways ws) in
    let b = subst B d h.below in
    let nb = next_below w rest' left in
    let to : ℕ → Type 0 = λ x. (left / x < product_by count_of_ways rest') ↔ (number < product_by count_of_ways ws) in
    record {
      lasts =
          ap (λ xs. xs ++ digits count_of_ways way rest' (left / count)) push ∙ append_assoc lasts (v ∷ []) (digits count_of_ways way rest' (left / count)) ∙
          ap (λ x. lasts ++ x ∷ digits count_of_ways way rest' (left / count)) last ∙ ap (λ x. lasts ++ way w (left % x) ∷ digits count_of_ways way rest' (left / x)) c ∙
          ap (λ xs. lasts ++ digits count_of_ways way xs left) (sym d) ∙ h.lasts;
      weight =
          ap (λ x. weight * x * weight_by count_of_ways weight_of_way rest' (left / count)) is ∙ ap (λ x. weight * weight_of_way w (left % x) * weight_by count_of_ways weight_of_way rest' (left / x)) c ∙
          mul_assoc weight (weight_of_way w (left % n)) (weight_by count_of_ways weight_of_way rest' (left / n)) ∙ ap (λ xs. weight * weight_by count_of_ways weight_of_way xs left) (sym d) ∙ h.weight;
      most = less_times weight k (size_of_ways w) (product_by size_of_ways rest') (2 ^ 32) m (subst P d h.most);
      some = (let x : 1 * 1 ≤ weight * 1 = mul-le-mul_right 1 h.some in let y : weight * 1 ≤ weight * k = mul-le-mul_left weight s in omega (arith, x, y));
      below = subst to (sym c) ((λ u. b.0 (nb.0 u)), (λ u. nb.1 (b.1 u)));
    }

pub chosen_none : (ws : List WaysValue) (number : ℕ) → product_by size_of_ways ws ≤ 2 ^ 32 → Chosen ws number 0 number 1 []
chosen_none ws number l = record {
  lasts = refl;
  weight = one-mul (weight_by count_of_ways weight_of_way ws number);
  most = omega (arith, one-mul (product_by size_of_ways ws), l);
  some = omega arith;
  below = ((λ u. u), (λ u. u));
}

-- what has been chosen of all of them
pub chosen_all : (ws : List WaysValue) (number i left w : ℕ) (vs : List EventId) → Chosen ws number i left w vs → length ws ≤ i →
    (vs ≡ digits count_of_ways way ws number) × (0 < left → product_by count_of_ways ws ≤ number) × (left ≤ 0 → (number < product_by count_of_ways ws) × (w ≡ weight_by count_of_ways weight_of_way ws number))
chosen_all ws number i left w vs h l =
    let e : drop i ws ≡ [] = drop_of_length-le ws l in
    let D : List WaysValue → Type 0 = λ xs. vs ++ digits count_of_ways way xs left ≡ digits count_of_ways way ws number in
    let W : List WaysValue → Type 0 = λ xs. w * weight_by count_of_ways weight_of_way xs left ≡ weight_by count_of_ways weight_of_way ws number in
    let B : List WaysValue → Type 0 = λ xs. (left < product_by count_of_ways xs) ↔ (number < product_by count_of_ways ws) in
    let b = subst B e h.below in (
      sym (append-nil vs) ∙ subst D e h.lasts,
      (λ some. elim (cases_lt number (product_by count_of_ways ws)) [ inl u ↦ absurd (let v : left < 1 = b.1 u in omega (arith, v, some)) | inr u ↦ u ]),
      (λ none. (b.0 (omega (arith, none)), sym (mul-one w) ∙ subst W e h.weight)),
    )

-- what is told of the write with some place among those that may stand last
pub weight_told : (w : WaysValue) (place : ℕ) (s : Shares) → AreShares (length w.writes) w.opened w.seen s → (place < w.opened → s.opened ≡ weight_of_way w place) × (w.opened ≤ place → s.other ≡ weight_of_way w place)
weight_told w place s h =
    let n : ℕ = length w.writes in
    let k : ℕ = w.opened in
    let W : Bool → ℕ = λ b. if w.seen then (if b then share n k else rest n k) else size_of_ways w in (
      (λ u. h.opened (omega (arith, u)) ∙ sym (ap W (lt-ltb place k u))),
      (λ u. h.other ∙ sym (ap W (le-ltb place k u))),
    )

choice_most : (b : Bool) (x y m : ℕ) → x ≤ m → y ≤ m → (if b then x else y) ≤ m
choice_most true x y m l u = l
choice_most false x y m l u = u

shares_most : (n k : ℕ) → k ≤ n - 1 → (share n k ≤ placings n k) × (rest n k ≤ placings n k)
shares_most n zero l = (some_placings n 0, some_placings n 0)
shares_most n (suc k) l =
    let r = rest_is n (suc k) (placings (n - 1) (suc k - 1)) (omega arith) l refl in
    (omega (arith, r.0, r.3), omega (arith, r.1, r.2))

pub weight_most : (w : WaysValue) (c : ℕ) → IsSound w → weight_of_way w c ≤ size_of_ways w
weight_most w c h =
    let n : ℕ = length w.writes in
    let k : ℕ = w.opened in
    let m = shares_most n k h in
    choice_most w.seen (if nat_lt c k then share n k else rest n k) (size_of_ways w) (size_of_ways w) (choice_most (nat_lt c k) (share n k) (rest n k) (size_of_ways w) m.0 m.1) (omega arith)

-- one of some ways that are few is of few orders
pub way_fits : (done : List WaysValue) (w : WaysValue) (behind : List WaysValue) (m : ℕ) → product_by size_of_ways (done ++ w ∷ behind) ≤ m → size_of_ways w ≤ m
way_fits [] w behind m l =
    let p : ℕ = size_of_ways w * product_by size_of_ways behind in
    some_times 1 (size_of_ways w) (product_by size_of_ways behind) m (omega arith) (product_positive behind) (omega (arith, one-mul p, l))
way_fits (x ∷ xs) w behind m l =
    let p : ℕ = product_by size_of_ways (xs ++ w ∷ behind) in
    let h : 1 * p ≤ size_of_ways x * p = mul-le-mul_right p (some_placings (length x.writes) x.opened) in
    way_fits xs w behind m (omega (arith, h, one-mul p, l))
