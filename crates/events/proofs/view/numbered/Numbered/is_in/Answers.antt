use Rattle.std.proofs.Common.{◌∙◌, ap}
use Rattle.events.specs.declared.event.Access.TheVariants.{Fence}
use Rattle.events.specs.declared.event.Order.TheVariants.{Rlx, Acq, Rel, AcqRel, Sc}
use Rattle.events.specs.Executions.{is_read, is_write}
use Rattle.events.proofs.Told.{access_told, order_told, same_told}
use Rattle.events.proofs.view.numbered.Numbered.is_in.Goals as goal

pub returns-in-SeqCst : goal.returns-in-SeqCst
returns-in-SeqCst c = rw (← c.self.view_is, c.in-SeqCst.is) (order_told c.order-in-SeqCst.result _ Sc c.eq-in-SeqCst.result c.eq-in-SeqCst.ensures c.order-in-SeqCst.ensures)

pub returns-in-AcquireRelease : goal.returns-in-AcquireRelease
returns-in-AcquireRelease c = rw (← c.self.view_is, c.in-AcquireRelease.is) (order_told c.order-in-AcquireRelease.result _ AcqRel c.eq-in-AcquireRelease.result c.eq-in-AcquireRelease.ensures c.order-in-AcquireRelease.ensures)

pub returns-in-Release : goal.returns-in-Release
returns-in-Release c = rw (← c.self.view_is, c.in-Release.is) (order_told c.order-in-Release.result _ Rel c.eq-in-Release.result c.eq-in-Release.ensures c.order-in-Release.ensures)

pub returns-in-Acquire : goal.returns-in-Acquire
returns-in-Acquire c = rw (← c.self.view_is, c.in-Acquire.is) (order_told c.order-in-Acquire.result _ Acq c.eq-in-Acquire.result c.eq-in-Acquire.ensures c.order-in-Acquire.ensures)

pub returns-in-Relaxed : goal.returns-in-Relaxed
returns-in-Relaxed c = rw (← c.self.view_is, c.in-Relaxed.is) (order_told c.order-in-Relaxed.result _ Rlx c.eq-in-Relaxed.result c.eq-in-Relaxed.ensures c.order-in-Relaxed.ensures)

pub returns-in-Fences : goal.returns-in-Fences
returns-in-Fences c = rw (← c.self.view_is, c.in-Fences.is) (access_told c.access-in-Fences.result _ Fence c.eq.result c.eq.ensures c.access-in-Fences.ensures)

pub returns-in-Exchanges : goal.returns-in-Exchanges
returns-in-Exchanges c = rw (← c.self.view_is, c.in-Exchanges.is, ← c.access-in-Exchanges.ensures) c.is_of_exchange.ensures

pub returns-in-Reads : goal.returns-in-Reads
returns-in-Reads c = rw (← c.self.view_is, c.in-Reads.is) (same_told _ _ (c.is_read.ensures ∙ ap is_read c.access-in-Reads.ensures))

pub returns-in-Writes : goal.returns-in-Writes
returns-in-Writes c = rw (← c.self.view_is, c.in-Writes.is) (same_told _ _ (c.is_write.ensures ∙ ap is_write c.access.ensures))

pub returns-in-Memory : goal.returns-in-Memory
returns-in-Memory c = rw (← c.self.view_is, c.in-Memory.is) c.is_memory.ensures

pub returns-in-InitialWrites : goal.returns-in-InitialWrites
returns-in-InitialWrites c = rw c.in-InitialWrites.is c.is_initial.ensures
