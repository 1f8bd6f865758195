use Rattle.std.proofs.Common.{append_assoc, append-nil}
use Rattle.suite.proofs.expected.Row.stored.Goals as goal

pub returns : goal.returns
returns c = rw (c.in_ok-push_parts.ensures, c.new-text.ensures.items, c.deref.ensures.value, c.deref-2.ensures.value, c.deref-3.ensures.value, c.deref-4.ensures.value) (simp (append_assoc, append-nil))
