-- The exits of a `?`, and what stands in front.
use Rattle.std.proofs.Common.{◌≡◌, ◌∙◌, ◌≤◌, ◌-◌, List, [], ◌∷◌, length, take, drop, get_or, sym, ap, arith}
use Rattle.std.specs.Prelude.{Result, IsErrAnd, Err}
use Rattle.std.proofs.lemmas.List.{take_rest}
use Rattle.std.proofs.lemmas.Result.{err_from_is_err_and}
use Rattle.cat_syntax.specs.declared.syntax_fault.SyntaxFault.{SyntaxFault}
use Rattle.cat_syntax.specs.declared.syntax_fault.SyntaxFault.TheVariants.{NoMemory}
use Rattle.cat_syntax.specs.declared.symbol.Symbol.{Symbol}
use Rattle.cat_syntax.specs.Reading.{Reading, OrNoMemory, Gives}

still : (e : SyntaxFault) (P Q : Type 0) → (P → Q) → OrNoMemory e P → OrNoMemory e Q
still NoMemory P Q g h = tt
still e P Q g h = g h

-- where reading a part stops, reading the whole does
pub stopped : {X A B : Type 0} (view : X → A) (r : Result X SyntaxFault) (e : SyntaxFault) (rest : List Symbol) (part : Reading B) (whole : Reading A) → IsErrAnd r (λ f. f ≡ e) →
    (part ≡ Err (e, rest) → whole ≡ Err (e, rest)) → OrNoMemory e (part ≡ Err (e, rest)) → Gives view r rest whole
stopped view r e rest part whole is goes told =
    let p = err_from_is_err_and r is in
    rw (p.1, p.2) (still e (part ≡ Err (e, rest)) (whole ≡ Err (e, rest)) goes told)

-- the first of some symbols, and the others as `[first, rest @ ..]` binds them
pub front_of : (ts : List Symbol) (s : Symbol) → 1 ≤ length ts → s ≡ get_or ts 0 s → ts ≡ s ∷ take (length ts - 1) (drop 1 ts)
front_of [] s l e = absurd (omega arith)
front_of (t ∷ us) s l e = ap (λ x. x ∷ us) (sym e) ∙ ap (λ x. s ∷ x) (sym (take_rest (t ∷ us) 1))
