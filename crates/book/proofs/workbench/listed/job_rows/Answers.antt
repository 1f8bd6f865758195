use Rattle.std.proofs.Common.{◌<◌, ◌≤◌, ◌∙◌, List, length, map, get_or, ap, subst}
use Rattle.std.proofs.lemmas.List.{take_all}
use Rattle.book.specs.Jobs.{Job}
use Rattle.book.specs.Listings.{row_of}
use Rattle.book.proofs.Listed.{mapped_more}
use Rattle.book.proofs.workbench.listed.job_rows.Goals as goal

pub loop-job-preserved : goal.loop-job-preserved
loop-job-preserved c =
    let at = c.loop-job in
    let jobs = c.args.jobs.now.items in
    let job = c.job-item.result in
    let is = c.deref-job-items.ensures.value in
    let L : List Job → Type 0 = λ js. at.job-index < length js in
    mapped_more row_of jobs at.job-index job c.in_ok-row.field-0 at.rows.items c.push.new.self.items (subst L is c.loop-job-test.true) (c.job-item.is ∙ ap (λ (js : List Job). get_or js at.job-index job) is) c.in_ok-row.ensures c.in_ok-push.ensures.items at.invariant

pub returns : goal.returns
returns c =
    let at = c.loop-job in
    let L : List Job → Type 0 = λ js. length js ≤ at.job-index in
    at.invariant ∙ ap (map row_of) (take_all at.job-index c.args.jobs.now.items (subst L c.deref-job-items.ensures.value c.loop-job-test.false))
