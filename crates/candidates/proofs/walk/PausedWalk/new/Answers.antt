use Rattle.std.proofs.Common.{◌∙◌, ℕ, List, Option, length, sym, ap, subst, arith}
use Rattle.std.specs.Prelude.{IfSome}
use Rattle.candidates.specs.Outlines.{HasNumber}
use Rattle.events.specs.Executions.{GraphValue}
use Rattle.candidates.specs.declared.levels.Level.{Level}
use Rattle.candidates.specs.Depths.{depths_of}
use Rattle.candidates.specs.Levels.{AreLevels, groups_of}
use Rattle.candidates.proofs.Deeper.{no_depths}
use Rattle.candidates.proofs.Placed.{placed_none}
use Rattle.candidates.proofs.walk.PausedWalk.new.Goals as goal

pub returns-clause-paused : goal.returns-clause-paused
returns-clause-paused c = λ s.
    let e = c.no_scene.ensures in
    let P : List Level → Type 0 = λ ls. AreLevels (length s.init) (groups_of s) ls in
    record {
      stretch = record { whole = λ l. absurd (omega (arith, l, e.size)); placed = placed_none s.threads _ _ e.places.0 };
      none = λ z. e.depths;
      within = λ l. absurd (omega (arith, l, e.size));
      seen = λ l. absurd (omega (arith, l, e.size));
      known = λ l. absurd (omega (arith, l, e.size));
      depths = e.depths ∙ sym (no_depths (length s.init)) ∙ sym (ap (λ (x : GraphValue). depths_of (length s.init) x.runs) e.graph);
      placed = placed_none s.threads _ _ e.places.2;
      room = placed_none s.threads _ _ e.places.3;
      number = (let O : Option ℕ → Type 0 = λ o. IfSome o (HasNumber (length s.init) c.no_scene.result.room) in subst O (sym e.number) tt);
      ahead = record {
        stretch = record { whole = λ l. absurd (omega (arith, l, e.ahead)); placed = placed_none s.threads _ _ e.places.1 };
        levels = subst P (sym e.levels) (λ k l m. absurd (omega (arith, m)));
      };
    }
