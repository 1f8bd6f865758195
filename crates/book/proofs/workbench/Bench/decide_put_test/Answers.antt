use Rattle.std.proofs.Common.{◌≡◌, ℕ, ◌<◌, ◌≤◌, List, ◌∙◌, ap, refl, arith, subst}
use Rattle.std.proofs.lemmas.Grind.{common_steps}
use Rattle.litmus_c.specs.Reads.{Reads, IsRefused}
use Rattle.litmus_tree.specs.Tree.{Litmus}
use Rattle.litmus_c.specs.declared.fault.TestFault.TheVariants.{NoMemory}
use Rattle.book.specs.Workbench.{Workbench, test_version}
use Rattle.book.proofs.Steps.{test_unread, test_spent, test_put}
use Rattle.book.proofs.workbench.Bench.decide_put_test.Goals as goal

pub returns-in-Err-clause-step : goal.returns-in-Err-clause-step
returns-in-Err-clause-step c =
    let P : List ℕ → Type 0 = λ bytes. (t : Litmus) → Reads bytes t → c.in-Err.fault ≡ NoMemory in
    let only = subst P c.bytes.ensures c.in-Err.ensures.only in
    let cause = subst (λ bytes. IsRefused bytes c.in-Err.fault) c.bytes.ensures c.in-Err.ensures.cause in
    rw c.refuse.ensures (test_unread c.args.self.now 0 c.args.text.now c.in-Err.fault c.requires only cause c.if-is_memory.ensures)

pub returns-then-version-self-clause-step : goal.returns-then-version-self-clause-step
returns-then-version-self-clause-step c =
    let s = c.args.self.now in
    let reads = subst (λ (bytes : List ℕ). Reads bytes c.in-Ok.test) c.bytes.ensures c.in-Ok.ensures.found in
    let name : c.in_ok-name.name ≡ c.in-Ok.test.name = grind (arith, common_steps) in
    let version : c.version-version.result ≡ test_version s.tests c.in_ok-name.name = c.version-version.ensures ∙ ap (λ (x : Workbench). test_version x.tests c.in_ok-name.name) c.self.view_is in
    let spent : s.limits.versions ≤ c.version-version.result = grind (arith, common_steps) in
    rw c.refuse-then-version-self.ensures (test_spent s 0 c.args.text.now c.in-Ok.test c.in_ok-name.name c.version-version.result c.requires reads name version spent)

pub returns-clause-step : goal.returns-clause-step
returns-clause-step c =
    let s = c.args.self.now in
    let reads = subst (λ (bytes : List ℕ). Reads bytes c.in-Ok.test) c.bytes.ensures c.in-Ok.ensures.found in
    let name : c.in_ok-name.name ≡ c.in-Ok.test.name = grind (arith, common_steps) in
    let version : c.version-version.result ≡ test_version s.tests c.in_ok-name.name = c.version-version.ensures ∙ ap (λ (x : Workbench). test_version x.tests c.in_ok-name.name) c.self.view_is in
    let room : c.version-version.result < s.limits.versions = grind (arith, common_steps) in
    test_put s 0 c.args.text.now c.in-Ok.test c.in-Ok.test c.in_ok-copy.field-0 c.in_ok-name.name c.version-version.result c.requires reads name c.in_ok-copy.ensures version room refl
