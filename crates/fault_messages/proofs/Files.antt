-- A model that is told at the place of its fault.
use Rattle.std.proofs.Common.{◌≡◌, ◌<◌, ℕ, List, Result, Ok, Err, get_or, length, refl, ap, subst, ◌∙◌}
use Rattle.std.specs.Prelude.{Option, Some, None, IfOk, IfSome}
use Rattle.std.specs.String.{string_bytes}
use Rattle.std.proofs.lemmas.Option.{slice_get_read}
use Rattle.cat_model.specs.Labels.{model_label}
use Rattle.cat_model.specs.declared.fault.ModelFault.{ModelFault}
use Rattle.cat_places.specs.Places.{IsModelPlace}
use Rattle.cat_places.specs.declared.source.Source.{Source}
use Rattle.places.specs.Messages.{message_without_place}
use Rattle.fault_messages.specs.Told.{IsMessage, TellsModel}

pub some_if : {A : Type 0} (o : Option A) (x : A) (P : A → Type 0) → o ≡ Some x → IfSome o P → P x
some_if o x P e h = subst (λ y. IfSome y P) e h

pub in_file : {X E : Type 0} (view : X → List ℕ) (word : List ℕ) (sources : List Source) (fault : ModelFault) (o : Option (ℕ × ℕ)) (place : ℕ × ℕ) (source : Source) (r : Result X E) →
    o ≡ Some place → IsModelPlace sources fault o → place.0 < length sources → source ≡ get_or sources place.0 source →
    IfOk r (λ s. IsMessage (string_bytes source.path) source.text.items (model_label fault) place.1 (view s)) → IfOk r (λ s. TellsModel word sources fault (view s))
in_file view word sources fault o place source (Ok s) p is h e m =
    record { place = Some place; is_place = subst (IsModelPlace sources fault) p is; told = record { source = source; at = slice_get_read sources (length sources) place.0 source refl h e; is_message = m } }
in_file view word sources fault o place source (Err x) p is h e m = tt

pub in_none : {X E : Type 0} (view : X → List ℕ) (word : List ℕ) (sources : List Source) (fault : ModelFault) (o : Option (ℕ × ℕ)) (label sentence : List ℕ) (r : Result X E) →
    o ≡ None → IsModelPlace sources fault o → label ≡ model_label fault → IfOk r (λ s. view s ≡ message_without_place word label sentence) → IfOk r (λ s. TellsModel word sources fault (view s))
in_none view word sources fault o label sentence (Ok s) p is l m =
    record { place = None; is_place = subst (IsModelPlace sources fault) p is; told = record { sentence = sentence; written = m ∙ ap (λ t. message_without_place word t sentence) l } }
in_none view word sources fault o label sentence (Err x) p is l m = tt
