-- Executions one behind another that have the same events, and what an evaluator relies on.
use Rattle.std.proofs.Common.{◌≡◌, ℕ, ◌<◌, ◌≤◌, ◌∙◌, sym, ap, arith}
use Rattle.std.specs.Prelude.{Option, None, Some, IfSome}
use Rattle.candidates.specs.Blocks.{AllExtend}
use Rattle.candidates.specs.Candidates.{Choices, graph_at}
use Rattle.events.specs.Cuts.{cut_down}
use Rattle.events.specs.Executions.{GraphValue}
use Rattle.events.specs.Extends.{Extends}
use Rattle.events.specs.Structures.{Structure, structure_of, structured}
use Rattle.events.specs.declared.cut.Cut.{Cut}
use Rattle.slices.specs.Steady.{AreSteady}

-- At no number there is another.
pub steady_nowhere : (s : Choices) (a b : ℕ) (relied : Option Structure) → b ≤ a → AreSteady s a b relied
steady_nowhere s a b relied l = record {
  alike = λ m n x y p q. absurd (omega (arith, p, q, l));
  theirs = λ m x p q. absurd (omega (arith, p, q, l));
}

relied_as : (relied : Option Structure) (x y : GraphValue) → structure_of x ≡ structure_of y → IfSome relied (λ r. r ≡ structure_of x) → IfSome relied (λ r. r ≡ structure_of y)
relied_as None x y e h = tt
relied_as (Some r) x y e h = h ∙ e

-- Those of a block have the events of the one that is shown.
pub steady_block : (s : Choices) (a b c : ℕ) (g : GraphValue) (cut : Cut) (relied : Option Structure) → a ≡ c → AllExtend s a b (cut_down g cut) → IfSome relied (λ r. r ≡ structure_of g) → AreSteady s c b relied
steady_block s a b c g cut relied e h k = record {
  alike = λ m n x y p q u v i j. same m x p q i ∙ sym (same n y u v j);
  theirs = λ m x p q i. relied_as relied g x (sym (same m x p q i)) k;
}
  where
    same : (m : ℕ) (x : GraphValue) → c ≤ m → m < b → graph_at s m ≡ Some x → structure_of x ≡ structure_of g
    same m x p q i =
        let more : Extends (cut_down g cut) x = h m (omega (arith, p, e)) q x i in
        ap (λ init. structured init x.runs) more.init ∙ ap (structured g.init) more.runs

-- It goes on so behind a number at which one of them stands, where the evaluator relies on its events or on nothing.
pub steady_behind : (s : Choices) (a b c n : ℕ) (g : GraphValue) (before relied : Option Structure) → AreSteady s a b before → a ≤ n → n < c → a ≤ c → graph_at s n ≡ Some g → IfSome relied (λ r. r ≡ structure_of g) → AreSteady s c b relied
steady_behind s a b c n g before relied h p l k at is = record {
  alike = λ m o x y q u v w. h.alike m o x y (omega (arith, q, k)) u (omega (arith, v, k)) w;
  theirs = λ m x q u i. relied_as relied g x (h.alike n m g x p (omega (arith, u, q, l)) (omega (arith, q, k)) u at i) is;
}

-- It is so of fewer.
pub steady_from : (s : Choices) (a b c : ℕ) (relied : Option Structure) → a ≤ c → AreSteady s a b relied → AreSteady s c b relied
steady_from s a b c relied l h = record {
  alike = λ m n x y p q u v. h.alike m n x y (omega (arith, p, l)) q (omega (arith, u, l)) v;
  theirs = λ m x p q. h.theirs m x (omega (arith, p, l)) q;
}
