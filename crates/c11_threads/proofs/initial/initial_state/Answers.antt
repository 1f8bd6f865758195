use Rattle.std.proofs.Common.{ℕ, List, ◌∙◌, sym, ap, if◌then◌else◌}
use Rattle.conditions.specs.declared.place.Binding.{Binding}
use Rattle.conditions.specs.Equality.{same_place}
use Rattle.conditions.specs.States.{value_at}
use Rattle.c11_threads.proofs.Filling.{last_first}
use Rattle.c11_threads.proofs.initial.initial_state.Goals as goal

pub loop-binding-preserved : goal.loop-binding-preserved
loop-binding-preserved c p =
    let b = c.in-Some.binding.now in
    c.in_ok-note_value.ensures p
    ∙ ap (λ (n : ℕ). if same_place b.place p then b.value else n) (c.loop-binding.invariant p)
    ∙ ap (λ (bs : List Binding). value_at bs p) (sym (last_first _ c.loop-binding.yielded c.in-Some.binding))
