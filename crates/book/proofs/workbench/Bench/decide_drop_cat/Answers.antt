use Rattle.std.proofs.Common.{◌≡◌, ◌<◌, ◌≤◌, ◌∙◌, true, false, ap, sym, arith}
use Rattle.std.specs.Prelude.{is_some}
use Rattle.cat_model.specs.Files.{version_of, loaded}
use Rattle.book.specs.Workbench.{Workbench}
use Rattle.book.proofs.Drops.{cat_away, cat_drop_spent, cat_dropped}
use Rattle.book.proofs.workbench.Bench.decide_drop_cat.Goals as goal

pub returns-then-not-is_loaded-clause-step : goal.returns-then-not-is_loaded-clause-step
returns-then-not-is_loaded-clause-step c =
    let s = c.args.self.now in
    let name = c.args.name.now in
    let away : is_some (loaded name s.cats) ≡ false = sym (ap (λ (x : Workbench). is_some (loaded name x.cats)) c.self.view_is) ∙ sym c.is_loaded.ensures ∙ c.if-not-is_loaded.true in
    rw c.refuse.ensures (cat_away s 0 name c.in_ok-copy.field-0 c.requires away c.in_ok-copy.ensures)

pub returns-then-version-self-clause-step : goal.returns-then-version-self-clause-step
returns-then-version-self-clause-step c =
    let s = c.args.self.now in
    let name = c.args.name.now in
    let there : is_some (loaded name s.cats) ≡ true = sym (ap (λ (x : Workbench). is_some (loaded name x.cats)) c.self.view_is) ∙ sym c.is_loaded.ensures ∙ c.if-not-is_loaded.false in
    let version : c.version-version.result ≡ version_of name s.cats = c.version-version.ensures ∙ ap (λ (x : Workbench). version_of name x.cats) c.self.view_is in
    let spent : s.limits.versions ≤ c.version-version.result = omega (arith, c.if-version-self.true, ap (λ (x : Workbench). x.limits.versions) c.self.view_is) in
    rw c.refuse-then-version-self.ensures (cat_drop_spent s 0 name c.in_ok-copy-2.field-0 c.version-version.result c.requires there version spent c.in_ok-copy-2.ensures)

pub returns-clause-step : goal.returns-clause-step
returns-clause-step c =
    let s = c.args.self.now in
    let name = c.args.name.now in
    let there : is_some (loaded name s.cats) ≡ true = sym (ap (λ (x : Workbench). is_some (loaded name x.cats)) c.self.view_is) ∙ sym c.is_loaded.ensures ∙ c.if-not-is_loaded.false in
    let version : c.version-version.result ≡ version_of name s.cats = c.version-version.ensures ∙ ap (λ (x : Workbench). version_of name x.cats) c.self.view_is in
    let room : c.version-version.result < s.limits.versions = omega (arith, c.if-version-self.false, ap (λ (x : Workbench). x.limits.versions) c.self.view_is) in
    cat_dropped s 0 name c.in_ok-copy-3.field-0 c.in_ok-copy-4.field-0 c.version-version.result c.requires there version room c.in_ok-copy-3.ensures c.in_ok-copy-4.ensures
