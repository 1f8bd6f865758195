use Rattle.std.proofs.Common.{refl}
use Rattle.drawing.proofs.graphviz.step_look.Goals as goal

pub returns : goal.returns
returns c =
    rw (c.in_ok-push_bytes-2.ensures, c.in_ok-push_quoted.ensures, c.in_ok-push_bytes.ensures, c.new-look.ensures.items, c.deref-2.ensures.value, c.in_ok-push_listed.ensures, c.new-labels.ensures.items, c.deref.ensures.value) refl
