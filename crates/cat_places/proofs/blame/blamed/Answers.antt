use Rattle.std.proofs.Common.{subst, sym}
use Rattle.cat_places.specs.Blame.{IsBlamed, IsFirstStop}
use Rattle.cat_places.proofs.Blaming.{blamed_stop, blamed_broken_result}
use Rattle.cat_places.proofs.blame.blamed.Goals as goal

pub returns-in_default-clause-only : goal.returns-in_default-clause-only
returns-in_default-clause-only c = blamed_broken_result c.args.files.now c.args.fault.now c.args.visits.now c.first_broken.result c.in_default.not-NoInclude c.in_default.not-IncludeCycle c.in_default.not-ModelTooLarge c.first_broken.ensures

pub returns-in-NoInclude-clause-only : goal.returns-in-NoInclude-clause-only
returns-in-NoInclude-clause-only c = λ k h. blamed_stop c.args.files.now c.args.fault.now c.args.visits.now c.first_stop.result c.first_stop.ensures k
    (subst (λ e. IsFirstStop c.args.files.now e c.args.visits.now k) (sym c.in-NoInclude.is) (subst (λ e. IsBlamed c.args.files.now e c.args.visits.now k) c.in-NoInclude.is h))

pub returns-in-IncludeCycle-clause-only : goal.returns-in-IncludeCycle-clause-only
returns-in-IncludeCycle-clause-only c = λ k h. blamed_stop c.args.files.now c.args.fault.now c.args.visits.now c.first_stop-in-IncludeCycle.result c.first_stop-in-IncludeCycle.ensures k
    (subst (λ e. IsFirstStop c.args.files.now e c.args.visits.now k) (sym c.in-IncludeCycle.is) (subst (λ e. IsBlamed c.args.files.now e c.args.visits.now k) c.in-IncludeCycle.is h))

pub returns-in-ModelTooLarge-clause-only : goal.returns-in-ModelTooLarge-clause-only
returns-in-ModelTooLarge-clause-only c = λ k h. blamed_stop c.args.files.now c.args.fault.now c.args.visits.now c.first_stop-in-ModelTooLarge.result c.first_stop-in-ModelTooLarge.ensures k
    (subst (λ e. IsFirstStop c.args.files.now e c.args.visits.now k) (sym c.in-ModelTooLarge.is) (subst (λ e. IsBlamed c.args.files.now e c.args.visits.now k) c.in-ModelTooLarge.is h))
