use Rattle.std.proofs.Common.{◌≡◌, ◌<◌, ◌≤◌, ◌∙◌, true, false, ap, sym, arith}
use Rattle.book.specs.Listings.{is_test}
use Rattle.book.specs.Workbench.{Workbench, test_version}
use Rattle.book.proofs.Drops.{test_away, test_drop_spent, test_dropped}
use Rattle.book.proofs.workbench.Bench.decide_drop_test.Goals as goal

pub returns-then-not-is_there-clause-step : goal.returns-then-not-is_there-clause-step
returns-then-not-is_there-clause-step c =
    let s = c.args.self.now in
    let name = c.args.name.now in
    let away : is_test s.tests name ≡ false = sym (ap (λ (x : Workbench). is_test x.tests name) c.self.view_is) ∙ sym c.is_there.ensures ∙ c.if-not-is_there.true in
    rw c.refuse.ensures (test_away s 0 name c.in_ok-copy.field-0 c.requires away c.in_ok-copy.ensures)

pub returns-then-version-self-clause-step : goal.returns-then-version-self-clause-step
returns-then-version-self-clause-step c =
    let s = c.args.self.now in
    let name = c.args.name.now in
    let there : is_test s.tests name ≡ true = sym (ap (λ (x : Workbench). is_test x.tests name) c.self.view_is) ∙ sym c.is_there.ensures ∙ c.if-not-is_there.false in
    let version : c.version-version.result ≡ test_version s.tests name = c.version-version.ensures ∙ ap (λ (x : Workbench). test_version x.tests name) c.self.view_is in
    let spent : s.limits.versions ≤ c.version-version.result = omega (arith, c.if-version-self.true, ap (λ (x : Workbench). x.limits.versions) c.self.view_is) in
    rw c.refuse-then-version-self.ensures (test_drop_spent s 0 name c.in_ok-copy-2.field-0 c.version-version.result c.requires there version spent c.in_ok-copy-2.ensures)

pub returns-clause-step : goal.returns-clause-step
returns-clause-step c =
    let s = c.args.self.now in
    let name = c.args.name.now in
    let there : is_test s.tests name ≡ true = sym (ap (λ (x : Workbench). is_test x.tests name) c.self.view_is) ∙ sym c.is_there.ensures ∙ c.if-not-is_there.false in
    let version : c.version-version.result ≡ test_version s.tests name = c.version-version.ensures ∙ ap (λ (x : Workbench). test_version x.tests name) c.self.view_is in
    let room : c.version-version.result < s.limits.versions = omega (arith, c.if-version-self.false, ap (λ (x : Workbench). x.limits.versions) c.self.view_is) in
    test_dropped s 0 name c.in_ok-copy-3.field-0 c.in_ok-copy-4.field-0 c.version-version.result c.requires there version room c.in_ok-copy-3.ensures c.in_ok-copy-4.ensures
