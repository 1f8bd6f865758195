-- The set of no places.
use Rattle.std.proofs.Common.{◌≡◌, ℕ, false, refl, sym, ◌∙◌, ap, subst}
use Rattle.std.proofs.lemmas.Bool.{false≢true}
use Rattle.relations.specs.TableFacts.{place_line, line_below, line_again}
use Rattle.relations.specs.Events.{EventSet, Has, IsExactlySet, event_set}
use Rattle.events.specs.declared.event.Event.{Event}
use Rattle.events.specs.declared.event.EventId.{EventId}
use Rattle.events.specs.declared.event.EventId.TheVariants.{Initial, Own}
use Rattle.events.specs.Executions.{GraphValue, no_places}
use Rattle.events.specs.Named.{no_event, event_at, data_of, control_of, IsDependency}

pub nothing : IsExactlySet 64 (λ i. ⊥) (event_set 64 (λ i. false))
nothing = record {
  count = refl;
  only = λ i h. false≢true (sym (place_line 64 (λ i. false) i (line_below 64 (λ i. false) i h)) ∙ h);
  all = λ i a p. absurd p;
  canonical = record { members = line_again 64 (λ i. false) };
}

none_there : (i : ℕ) → Has no_places i → ⊥
unfolding no_places
none_there i h = nothing.only i h

data_at : (g : GraphValue) (l q k p : ℕ) → Own l q ≡ Own k p → event_at g k p ≡ no_event → (event_at g l q).data_from ≡ no_places
data_at g l q k p f n =
    let a : l ≡ k = cc in
    let b : q ≡ p = cc in
    let same : event_at g l q ≡ no_event = ap (λ i. event_at g i q) a ∙ ap (λ j. event_at g k j) b ∙ n in
    ap (λ (e : Event). e.data_from) same

control_at : (g : GraphValue) (l q k p : ℕ) → Own l q ≡ Own k p → event_at g k p ≡ no_event → (event_at g l q).ctrl_from ≡ no_places
control_at g l q k p f n =
    let a : l ≡ k = cc in
    let b : q ≡ p = cc in
    let same : event_at g l q ≡ no_event = ap (λ i. event_at g i q) a ∙ ap (λ j. event_at g k j) b ∙ n in
    ap (λ (e : Event). e.ctrl_from) same

-- nothing depends where no event is so named
pub no_data : (g : GraphValue) (d e : EventId) (k p : ℕ) → e ≡ Own k p → event_at g k p ≡ no_event → IsDependency d e (data_of g e) → ⊥
no_data g (Initial x) (Initial y) k p f n h = h
no_data g (Initial x) (Own l q) k p f n h = h
no_data g (Own j r) (Initial y) k p f n h = h
no_data g (Own j r) (Own l q) k p f n h =
    let same : (event_at g l q).data_from ≡ no_places = data_at g l q k p f n in
    let P : EventSet → Type 0 = λ s. Has s r in
    none_there r (subst P same h.1)

pub no_control : (g : GraphValue) (d e : EventId) (k p : ℕ) → e ≡ Own k p → event_at g k p ≡ no_event → IsDependency d e (control_of g e) → ⊥
no_control g (Initial x) (Initial y) k p f n h = h
no_control g (Initial x) (Own l q) k p f n h = h
no_control g (Own j r) (Initial y) k p f n h = h
no_control g (Own j r) (Own l q) k p f n h =
    let same : (event_at g l q).ctrl_from ≡ no_places = control_at g l q k p f n in
    let P : EventSet → Type 0 = λ s. Has s r in
    none_there r (subst P same h.1)
