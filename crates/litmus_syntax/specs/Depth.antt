-- Where a test nests too deep.
-- DeepX n ts says that the symbols ts begin as an X of the grammar, up to a place that nests n deep in it: what stands
-- before this place is by the grammar and nests less deep, and what stands behind it is left open. The start of the X
-- nests 0 deep. Each opening parenthesis, `!`, `~`, `not`, block, arm of an `if` and right side of `=>` is one deeper
-- than what it stands in; a chain of one connective is no level.
use Rattle.std.specs.Prelude.{◌≡◌, ℕ, List, ◌∷◌, ◌++◌, length, true, codes}
use Rattle.std.specs.Fmt.{decimal}
use Rattle.std.proofs.Common.{zero, suc}
use Rattle.conditions.specs.declared.condition.Kind.{Kind}
use Rattle.conditions.specs.declared.place.Binding.{Binding}
use Rattle.conditions.specs.declared.place.Place.{Place}
use Rattle.conditions.specs.Conditions.{Formula}
use Rattle.litmus_tree.specs.declared.expression.Operator.{Operator}
use Rattle.litmus_syntax.specs.declared.atomics.Operation.{Operation}
use Rattle.litmus_syntax.specs.declared.symbol.Symbol.{Symbol}
use Rattle.litmus_syntax.specs.declared.symbol.Symbol.TheVariants.{Fixed, Call, Name, Word as head_word}
use Rattle.litmus_syntax.specs.declared.symbol.Terminal.{Terminal}
use Rattle.litmus_syntax.specs.declared.symbol.Terminal.TheVariants.{Int, If, Else, LeftParen, RightParen, LeftBrace, RightBrace, Comma, Assign, Star, Bang, And, Or, Arrow}
use Rattle.litmus_tree.specs.declared.tree.Parameter.{Parameter}
use Rattle.litmus_syntax.specs.Atomics.{TakesValue, has_value}
use Rattle.litmus_syntax.specs.Drafts.{Listing}
use Rattle.litmus_syntax.specs.Grammar.{IsEntries, IsParameterList, Joins, IsLevel, IsExpression, IsDeclarators, IsStep, IsSteps, IsThreads, IsListed, Denies, IsOr, IsConjunction, IsKind}
use Rattle.litmus_tree.specs.Tree.{Word, Term, Declared, Step, Steps}

-- Expressions.

mutual
  -- in the first operand, or in one behind a sign
  pub data DeepLevel : ℕ → ℕ → List Symbol → Type 0 where
    deep_unary : {n : ℕ} {ts : List Symbol} → DeepUnary n ts → DeepLevel zero n ts
    deep_tighter : {k n : ℕ} {ts : List Symbol} → DeepLevel k n ts → DeepLevel (suc k) n ts
    deep_joined : {k n : ℕ} {ts mid : List Symbol} {t : Terminal} {o : Operator} {a : Term} → IsLevel (suc k) n ts (Fixed t ∷ mid) a → Joins k t o → DeepLevel k (suc n) mid → DeepLevel (suc k) (suc n) ts

  -- here, behind "!", or in parentheses
  pub data DeepUnary : ℕ → List Symbol → Type 0 where
    deep_operand : {ts : List Symbol} → DeepUnary zero ts
    deep_not : {n : ℕ} {ts : List Symbol} → DeepUnary n ts → DeepUnary (suc n) (Fixed Bang ∷ ts)
    deep_paren : {n : ℕ} {ts : List Symbol} → DeepLevel 3 n ts → DeepUnary (suc n) (Fixed LeftParen ∷ ts)

abbrev pub DeepExpression : ℕ → List Symbol → Type 0
DeepExpression n ts = DeepLevel 3 n ts

-- Calls.

-- behind the word of a call: in its parentheses, or in the value that it takes
pub data DeepCall : Operation → ℕ → List Symbol → Type 0 where
  deep_call : {c : Operation} {ts : List Symbol} → DeepCall c (suc zero) (Fixed LeftParen ∷ ts)
  deep_value : {c : Operation} {n : ℕ} {x : Word} {ts : List Symbol} → TakesValue c → DeepExpression n ts → DeepCall c (suc n) (Fixed LeftParen ∷ Name x ∷ Fixed Comma ∷ ts)

pub data DeepRight : ℕ → List Symbol → Type 0 where
  deep_computed : {n : ℕ} {ts : List Symbol} → DeepExpression n ts → DeepRight n ts
  deep_given : {c : Operation} {n : ℕ} {ts : List Symbol} → has_value c ≡ true → DeepCall c n ts → DeepRight n (Call c ∷ ts)

-- Statements.

-- behind a name and "="
pub data DeepAssigned : ℕ → List Symbol → Type 0 where
  deep_right : {n : ℕ} {r : Word} {ts : List Symbol} → DeepRight n ts → DeepAssigned n (Name r ∷ Fixed Assign ∷ ts)

-- in the first declarator, or in one behind a comma
pub data DeepDeclarators : ℕ → List Symbol → Type 0 where
  deep_declarator : {n : ℕ} {ts : List Symbol} → DeepAssigned n ts → DeepDeclarators n ts
  deep_declared : {n : ℕ} {ts mid : List Symbol} {ds : List Declared} → IsDeclarators n ts (Fixed Comma ∷ mid) ds → DeepAssigned (suc n) mid → DeepDeclarators (suc n) ts

pub data DeepSimple : ℕ → List Symbol → Type 0 where
  deep_declare : {n : ℕ} {ts : List Symbol} → DeepDeclarators n ts → DeepSimple n (Fixed Int ∷ ts)
  deep_assign : {n : ℕ} {ts : List Symbol} → DeepAssigned n ts → DeepSimple n ts
  deep_write : {n : ℕ} {x : Word} {ts : List Symbol} → DeepExpression n ts → DeepSimple n (Fixed Star ∷ Name x ∷ Fixed Assign ∷ ts)
  deep_perform : {c : Operation} {n : ℕ} {ts : List Symbol} → DeepCall c n ts → DeepSimple n (Call c ∷ ts)

mutual
  -- here, in a simple statement, in a block, or in an if: its test, its arm, or the arm of its else
  pub data DeepStep : ℕ → List Symbol → Type 0 where
    deep_statement : {ts : List Symbol} → DeepStep zero ts
    deep_simple : {n : ℕ} {ts : List Symbol} → DeepSimple n ts → DeepStep n ts
    deep_block : {n : ℕ} {ts : List Symbol} → DeepSteps n ts → DeepStep (suc n) (Fixed LeftBrace ∷ ts)
    deep_test : {n : ℕ} {ts : List Symbol} → DeepExpression n ts → DeepStep (suc n) (Fixed If ∷ Fixed LeftParen ∷ ts)
    deep_arm : {n : ℕ} {ts mid : List Symbol} {c : Term} → IsExpression n ts (Fixed RightParen ∷ mid) c → DeepStep (suc n) mid →
        DeepStep (suc (suc n)) (Fixed If ∷ Fixed LeftParen ∷ ts)
    deep_else : {n : ℕ} {ts mid more : List Symbol} {c : Term} {a : Step} → IsExpression n ts (Fixed RightParen ∷ mid) c → IsStep n mid (Fixed Else ∷ more) a → DeepStep (suc n) more →
        DeepStep (suc (suc n)) (Fixed If ∷ Fixed LeftParen ∷ ts)

  -- here, or in a statement behind others or none
  pub data DeepSteps : ℕ → List Symbol → Type 0 where
    deep_statements : {ts : List Symbol} → DeepSteps zero ts
    deep_step : {n : ℕ} {ts mid : List Symbol} {ss : Steps} → IsSteps n ts mid ss → DeepStep (suc n) mid → DeepSteps (suc n) ts

-- Threads.

-- in the parentheses of the parameters, or in the statements
pub data DeepThread : ℕ → ℕ → List Symbol → Type 0 where
  deep_list : {k : ℕ} {ts : List Symbol} → DeepThread (suc zero) k (Name (codes "P" ++ decimal k) ∷ Fixed LeftParen ∷ ts)
  deep_body : {n k : ℕ} {ts us : List Symbol} {ps : List Parameter} → IsParameterList n ts (Fixed LeftBrace ∷ us) ps → DeepSteps (suc n) us →
      DeepThread (suc n) k (Name (codes "P" ++ decimal k) ∷ ts)

-- in thread 0, or in the next of some threads
pub data DeepThreads : ℕ → List Symbol → Type 0 where
  deep_thread : {n : ℕ} {ts : List Symbol} → DeepThread n 0 ts → DeepThreads n ts
  deep_next : {n : ℕ} {ts mid : List Symbol} {ls : List Listing} → IsThreads n ts mid ls → DeepThread (suc n) (length ls) mid → DeepThreads (suc n) ts

-- Conditions.

mutual
  -- in what is no implication, or behind "=>"
  pub data DeepProposition : ℕ → List Symbol → Type 0 where
    deep_or : {n : ℕ} {ts : List Symbol} → DeepOr n ts → DeepProposition n ts
    deep_implied : {n : ℕ} {ts mid : List Symbol} {a : Formula} → IsOr n ts (Fixed Arrow ∷ mid) a → DeepProposition n mid → DeepProposition (suc n) ts

  -- in the first conjunction, or in one behind "\/"
  pub data DeepOr : ℕ → List Symbol → Type 0 where
    deep_conjunction : {n : ℕ} {ts : List Symbol} → DeepConjunction n ts → DeepOr n ts
    deep_disjoined : {n : ℕ} {ts mid : List Symbol} {a : Formula} → IsOr n ts (Fixed Or ∷ mid) a → DeepConjunction (suc n) mid → DeepOr (suc n) ts

  -- in the first atomic, or in one behind "/\"
  pub data DeepConjunction : ℕ → List Symbol → Type 0 where
    deep_atomic : {n : ℕ} {ts : List Symbol} → DeepAtomic n ts → DeepConjunction n ts
    deep_conjoined : {n : ℕ} {ts mid : List Symbol} {a : Formula} → IsConjunction n ts (Fixed And ∷ mid) a → DeepAtomic (suc n) mid → DeepConjunction (suc n) ts

  -- here, behind "~" or "not", or in parentheses
  pub data DeepAtomic : ℕ → List Symbol → Type 0 where
    deep_formula : {ts : List Symbol} → DeepAtomic zero ts
    deep_denied : {n : ℕ} {t : Terminal} {ts : List Symbol} → Denies t → DeepAtomic n ts → DeepAtomic (suc n) (Fixed t ∷ ts)
    deep_enclosed : {n : ℕ} {ts : List Symbol} → DeepProposition n ts → DeepAtomic (suc n) (Fixed LeftParen ∷ ts)

-- Tests.

-- in the threads, or in the proposition of the condition
pub data DeepTest : ℕ → List Symbol → Type 0 where
  deep_threads : {n : ℕ} {x : Word} {ts us : List Symbol} {bs : List Binding} → IsEntries ts (Fixed RightBrace ∷ us) bs → DeepThreads n us →
      DeepTest n (head_word (codes "C") ∷ head_word x ∷ Fixed LeftBrace ∷ ts)
  deep_condition : {n : ℕ} {x : Word} {ts us vs ws xs : List Symbol} {bs : List Binding} {ls : List Listing} {ps : List Place} {k : Kind} →
      IsEntries ts (Fixed RightBrace ∷ us) bs → IsThreads n us vs ls → IsListed vs ws ps → IsKind ws xs k → DeepProposition (suc n) xs →
      DeepTest (suc n) (head_word (codes "C") ∷ head_word x ∷ Fixed LeftBrace ∷ ts)

-- something nests more than 32 deep
abbrev pub NestsTooDeep : List Symbol → Type 0
NestsTooDeep ts = DeepTest 33 ts
