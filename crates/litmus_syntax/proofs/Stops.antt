-- What a reader gives where it stops, of what a part of it gave.
use Rattle.std.proofs.Common.{◌≡◌, ℕ, zero, suc, List, ap, sym, subst}
use Rattle.std.specs.Prelude.{Result, Ok, Err}
use Rattle.std.specs.Result.{IsErrAnd, result_and}
use Rattle.descent.specs.Reading.{◌>>=◌}
use Rattle.descent.proofs.Tools.{bind_ok}
use Rattle.litmus_syntax.specs.declared.symbol.Symbol.{Symbol}
use Rattle.litmus_syntax.specs.declared.symbol.Terminal.TheVariants.{LeftParen}
use Rattle.litmus_syntax.specs.declared.syntax_fault.SyntaxFault.{SyntaxFault}
use Rattle.litmus_syntax.specs.declared.syntax_fault.SyntaxFault.TheVariants.{Syntax, BadOrder, TooDeep, NoMemory}
use Rattle.litmus_syntax.specs.Reading.{Reading, Gives, expected, opened, open_at}

handed : {Y A B : Type 0} (sight : Y → B) (e : SyntaxFault) (rest end : List Symbol) (read : Reading A) (more : A × List Symbol → Reading B) → Gives {X = A} (λ x. x) (Err e) rest read → Gives sight (Err e) end (read >>= more)
handed sight NoMemory rest end read more given = tt
handed sight (Syntax n) rest end read more given = ap (λ r. r >>= more) given
handed sight BadOrder rest end read more given = ap (λ r. r >>= more) given
handed sight TooDeep rest end read more given = ap (λ r. r >>= more) given

-- the part's refusal is the whole's
pub stopped : {Y A B : Type 0} (sight : Y → B) (r : Result Y SyntaxFault) (e : SyntaxFault) (rest end : List Symbol) (read : Reading A) (more : A × List Symbol → Reading B) → Gives {X = A} (λ x. x) (Err e) rest read → IsErrAnd r (λ g. g ≡ e) → Gives sight r end (read >>= more)
stopped sight (Ok x) e rest end read more given h = absurd h
stopped sight (Err g) e rest end read more given h = subst (λ f. Gives sight (Err f) end (read >>= more)) (sym h) (handed sight e rest end read more given)

-- where memory runs out, anything may be read
pub without_memory : {X A : Type 0} (view : X → A) (r : Result X SyntaxFault) (rest : List Symbol) (read : Reading A) → IsErrAnd r (λ g. g ≡ NoMemory) → Gives view r rest read
without_memory view (Ok x) rest read h = absurd h
without_memory view (Err g) rest read h = subst (λ f. Gives view (Err f) rest read) (sym h) tt

-- what is read, if the last part is there
pub ended : {Y B : Type 0} (sight : Y → B) (last : Result (Unit {0}) SyntaxFault) (y : Y) (rest : List Symbol) (read : Reading (Unit {0})) → Gives (λ _. tt) last rest read → Gives sight (result_and last (Ok y)) rest (read >>= λ x. Ok (sight y, x.1))
ended sight (Ok _) y rest read given = ap (λ r. r >>= λ x. Ok (sight y, x.1)) given
ended sight (Err e) y rest read given = handed sight e rest rest read (λ x. Ok (sight y, x.1)) given

-- behind an opening parenthesis there is one depth less

opened_less : (n m : ℕ) (ts rest : List Symbol) → opened n ts ≡ Ok (m, rest) → n ≡ suc m
unfolding opened
opened_less zero m ts rest e = absurd (cc)
opened_less (suc k) m ts rest e = let same : (k, ts) ≡ (m, rest) = cc in ap (λ (p : ℕ × List Symbol). suc p.0) same

pub opens : (n m : ℕ) (ts rest : List Symbol) → open_at n ts ≡ Ok (m, rest) → n ≡ suc m
unfolding open_at
opens n m ts rest e = let x = bind_ok (expected LeftParen ts) _ _ e in opened_less n m x.0.1 rest x.2
