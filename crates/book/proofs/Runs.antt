-- A run by one step more.
use Rattle.std.proofs.Common.{◌≡◌, ℕ, ◌+◌, ◌<◌, ◌≤◌, List, [], ◌∷◌, ◌++◌, length, refl, ◌∙◌, subst, arith, length-append}
use Rattle.book.specs.declared.plan.Change.{Change}
use Rattle.book.specs.declared.plan.Change.TheVariants.{Keep, PutCat, DropCat, SetTest, Open, Forget, Release, Hold, End, Take, Judge, Close}
use Rattle.book.specs.declared.limits.Limits.{Limits}
use Rattle.book.specs.Changes.{changed, IsReady}
use Rattle.book.specs.Kept.{IsKept}
use Rattle.journal.specs.Lines.{Line}
use Rattle.book.specs.Step.{Step, LeadsFrom}
use Rattle.book.specs.Workbench.{Workbench, empty}

pub changed-limits : (s : Workbench) (change : Change) → (changed s change).limits ≡ s.limits
changed-limits s Keep = refl
changed-limits s (PutCat name version file) = refl
changed-limits s (DropCat name version) = refl
changed-limits s (SetTest name slot) = refl
changed-limits s (Open job) = refl
changed-limits s (Forget id) = refl
changed-limits s (Release id) = refl
changed-limits s (Hold claim mark) = refl
changed-limits s (End number seat) = refl
changed-limits s (Take number seat job part) = refl
changed-limits s (Judge id v) = refl
changed-limits s Close = refl

pub changed-last_job : (s : Workbench) (change : Change) → IsReady s change → (changed s change).last_job ≤ s.last_job + 1
changed-last_job s Keep h = omega arith
changed-last_job s (PutCat name version file) h = omega arith
changed-last_job s (DropCat name version) h = omega arith
changed-last_job s (SetTest name slot) h = omega arith
changed-last_job s (Open job) h = omega (arith, h)
changed-last_job s (Forget id) h = omega arith
changed-last_job s (Release id) h = omega arith
changed-last_job s (Hold claim mark) h = omega arith
changed-last_job s (End number seat) h = omega arith
changed-last_job s (Take number seat job part) h = omega arith
changed-last_job s (Judge id v) h = omega arith
changed-last_job s Close h = omega arith

leads-push : (place : ℕ) (s mid s' : Workbench) (journal : List Line) (line : Line) → LeadsFrom place s journal mid → line.place ≡ place + length journal → Step mid line.seat line.said line.reply s' → LeadsFrom place s (journal ++ line ∷ []) s'
leads-push place s mid s' [] line leads at step = (at ∙ omega arith, (s', subst (λ (v : Workbench). Step v line.seat line.said line.reply s') leads step, refl))
leads-push place s mid s' (x ∷ xs) line leads at step = (leads.0, (leads.1.0, leads.1.1, leads-push (place + 1) leads.1.0 mid s' xs line leads.1.2 (at ∙ omega arith) step))

pub kept-push : (limits : Limits) (journal now : List Line) (s s' : Workbench) (line : Line) → IsKept limits journal s → now ≡ journal ++ line ∷ [] → line.place ≡ length journal → length journal < limits.journal → Step s line.seat line.said line.reply s' → s'.limits ≡ s.limits → s'.last_job ≤ s.last_job + 1 → IsKept limits now s'
kept-push limits journal now s s' line kept is at room step same last =
    rw is (record {
      leads = leads-push 0 (empty limits) s s' journal line kept.leads (at ∙ omega arith) step;
      within = omega (arith, length-append journal (line ∷ []), room);
      same = same ∙ kept.same;
      numbered = omega (arith, length-append journal (line ∷ []), last, kept.numbered);
    })
