-- The first runs that stay while runs are put to their places one by one.
use Rattle.std.proofs.Common.{◌≡◌, ℕ, ◌+◌, ◌<◌, ◌≤◌, List, [], ◌∷◌, ◌++◌, length, min, take, refl, sym, ◌∙◌, ap, inl, inr, arith, Bool, true, Option, None, Some}
use Rattle.std.specs.Prelude.{IfSome}
use Rattle.std.proofs.Math.Nat.{min-eq_left, min-eq_right}
use Rattle.std.proofs.lemmas.Bool.{cases_lt}
use Rattle.candidates.specs.Located.{Joins}
use Rattle.candidates.specs.declared.threads.Likeness.{Likeness}
use Rattle.std.proofs.lemmas.List.{length-take-le, take-append-le, take-take}

stay_below : {X : Type 0} (old new : List X) (i k : ℕ) (x : X) → k ≤ i → i ≤ length old → take (i + 1) new ≡ take i old ++ x ∷ [] → take k new ≡ take k old
stay_below {X = X} old new i k x l m put =
    let n : length (take i old) ≡ i = length-take-le i old m in
    sym (take-take k (i + 1) new (omega (arith, l))) ∙ ap (take k) put ∙ take-append-le k (take i old) (x ∷ []) (omega (arith, l, n)) ∙ take-take k i old l

-- What is known of how many runs stay, once those of the threads before place i are in theirs.
pub record Stay {X : Type 0} (old first : List X) (i k : ℕ) : Type 0 where
  pub some : k < i → take k old ≡ take k first
  pub whole : i ≤ k → old ≡ first

-- The lesser of both is how many stay.
pub joins_lesser : (i before after : ℕ) (like : Likeness) → after ≡ min before i → Joins i before after (Some like)
joins_lesser i before after like e = elim (cases_lt i before) [
  | inl less ↦ (let l : i ≤ before = omega (arith, less) in inr (e ∙ min-eq_right l, l))
  | inr more ↦ inl (e ∙ min-eq_left more, more)
]

pub stay_first : {X : Type 0} (xs : List X) (n : ℕ) → Stay xs xs 0 n
stay_first xs n = record { some = λ l. refl; whole = λ l. refl }

pub stay_on : {X : Type 0} (old new first : List X) (i before after : ℕ) (x : X) (change : Option Likeness) → Joins i before after change → i ≤ length old → take (i + 1) new ≡ take i old ++ x ∷ []
    → (change ≡ None → new ≡ old) → Stay old first i before → Stay new first (i + 1) after
stay_on old new first i before after x None j m put there h = record {
  some = λ l. ap (λ k. take k new) j ∙ ap (take before) (there refl) ∙ elim (cases_lt before i) [
    | inl less ↦ h.some less
    | inr up ↦ ap (take before) (h.whole up)
  ] ∙ ap (λ k. take k first) (sym j);
  whole = λ l. there refl ∙ h.whole (omega (arith, l, j));
}
stay_on old new first i before after x (Some like) j m put there h = record {
  some = λ l. elim j [
    | inl less ↦ stay_below old new i after x (omega (arith, less.0, less.1)) m put ∙ elim (cases_lt before i) [
      | inl below ↦ ap (λ k. take k old) less.0 ∙ h.some below ∙ ap (λ k. take k first) (sym less.0)
      | inr up ↦ ap (take after) (h.whole up)
    ]
    | inr here ↦ stay_below old new i after x (omega (arith, here.0)) m put ∙ ap (take after) (h.whole here.1)
  ];
  whole = λ l. absurd (elim j [ inl less ↦ omega (arith, less.0, less.1, l) | inr here ↦ omega (arith, here.0, l) ]);
}

pub stay_fewer : (i before after n : ℕ) (change : Option Likeness) → Joins i before after change → before ≤ n → after ≤ n
stay_fewer i before after n None j l = omega (arith, j, l)
stay_fewer i before after n (Some like) j l = elim j [ inl less ↦ omega (arith, less.0, l) | inr here ↦ omega (arith, here.0, here.1, l) ]

pub stay_all : {X : Type 0} (old first : List X) (i k : ℕ) → k ≤ i → Stay old first i k → take k old ≡ take k first
stay_all old first i k l h = elim (cases_lt k i) [ inl less ↦ h.some less | inr up ↦ ap (take k) (h.whole up) ]

-- What shows of the runs stays, where it does so if one is changed.
pub shows_on : {X Y : Type 0} (shown : X → Y) (old new : X) (calm : Likeness → Bool) (change : Option Likeness) → (change ≡ None → new ≡ old) → IfSome change (λ like. calm like ≡ true → shown new ≡ shown old) → IfSome change (λ like. calm like ≡ true) → shown new ≡ shown old
shows_on shown old new calm None there f h = ap shown (there refl)
shows_on shown old new calm (Some like) there f h = f h

-- What follows of a value follows where there may be none.
pub still_some : {X : Type 0} (P Q : X → Type 0) (found : Option X) → ((x : X) → P x → Q x) → IfSome found P → IfSome found Q
still_some P Q None f h = tt
still_some P Q (Some x) f h = f x h
