-- Sets of places, told by what is in them.
use Rattle.std.proofs.Common.{◌≡◌, ℕ, ◌<◌, ◌⊎◌, refl, sym, ◌∙◌, inl, inr, Bool, true, false, ◌==◌, ◌||◌}
use Rattle.std.proofs.lemmas.Bool.{or_cases, eqb-true, eq-eqb, false≢true}
use Rattle.relations.specs.Tables.{place}
use Rattle.relations.specs.TableFacts.{place_line, line_below, line_again}
use Rattle.relations.specs.Events.{EventSet, Has, IsExactlySet, event_set}
use Rattle.relations.specs.Equality.{one_set}
use Rattle.events.specs.Executions.{no_places}
use Rattle.c11_threads.specs.Contents.{just, joined}

exactly : (f : ℕ → Bool) → IsExactlySet 64 (λ i. f i ≡ true) (event_set 64 f)
exactly f = record {
  count = refl;
  only = λ i h. sym (place_line 64 f i (line_below 64 f i h)) ∙ h;
  all = λ i l h. place_line 64 f i l ∙ h;
  canonical = record { members = line_again 64 f };
}

-- A set of just the places that f tells is the set that f makes.
pub is_made : (f : ℕ → Bool) (P : ℕ → Type 0) (s : EventSet) → ((i : ℕ) → P i → f i ≡ true) → ((i : ℕ) → i < 64 → f i ≡ true → P i) → IsExactlySet 64 P s → s ≡ event_set 64 f
is_made f P s to from h = one_set 64 (λ i. f i ≡ true) s (event_set 64 f)
    (record { count = h.count; only = λ i m. to i (h.only i m); all = λ i l m. h.all i l (from i l m); canonical = h.canonical })
    (exactly f)

pub none_in : (i : ℕ) → Has no_places i → ⊥
unfolding no_places
none_in i h = let b : i < 64 = line_below 64 (λ j. false) i h in false≢true (sym (place_line 64 (λ j. false) i b) ∙ h)

pub is_just : (p : ℕ) (s : EventSet) → IsExactlySet 64 (λ i. i ≡ p) s → s ≡ just p
unfolding just
is_just p s h = is_made (λ i. i == p) (λ i. i ≡ p) s (λ i e. eq-eqb i p e) (λ i l m. eqb-true i p m) h

or_in : (a b : Bool) → (a ≡ true) ⊎ (b ≡ true) → (a || b) ≡ true
or_in true b h = refl
or_in false b h = elim h [ inl e ↦ absurd (false≢true e) | inr e ↦ e ]

pub is_union : (s t u : EventSet) → IsExactlySet 64 (λ i. Has s i ⊎ Has t i) u → u ≡ joined s t
unfolding joined
is_union s t u h = is_made (λ i. place s.members i || place t.members i) (λ i. Has s i ⊎ Has t i) u
    (λ i m. or_in (place s.members i) (place t.members i) m)
    (λ i b m. or_cases (place s.members i) (place t.members i) m)
    h

pub in_just : (p i : ℕ) → Has (just p) i → i ≡ p
unfolding just
in_just p i h = let b : i < 64 = line_below 64 (λ j. j == p) i h in eqb-true i p (sym (place_line 64 (λ j. j == p) i b) ∙ h)

pub in_joined : (s t : EventSet) (i : ℕ) → Has (joined s t) i → Has s i ⊎ Has t i
unfolding joined
in_joined s t i h =
    let f : ℕ → Bool = λ j. place s.members j || place t.members j in
    let b : i < 64 = line_below 64 f i h in
    or_cases (place s.members i) (place t.members i) (sym (place_line 64 f i b) ∙ h)
