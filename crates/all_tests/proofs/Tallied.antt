-- The first result, where it is of all numbers, is the whole.
use Rattle.std.proofs.Common.{◌≡◌, ◌≤◌, ◌<◌, ◌++◌, ◌∷◌, [], List, refl, sym, subst, inl, arith}
use Rattle.slices.specs.Parts.{PieceResultValue}
use Rattle.slices.specs.Tallies.{TallyValue, IsApart, IsHeld, span_of}
use Rattle.slices.specs.declared.span.Span.{Span}
use Rattle.all_tests.specs.Whole.{IsOver, IsWhole}

pub none_apart : (s : Span) (spans : List Span) → spans ≡ [] → IsApart s spans
none_apart s spans none i h held = let P : List Span → Type 0 = λ l. IsHeld l i in (subst P none held).1

pub whole : (old new : TallyValue) (r : PieceResultValue) → old.spans ≡ [] → IsOver old.work r → new ≡ record old { spans = old.spans ++ span_of r ∷ [] } → IsWhole new
whole old new r none over is =
    let P : TallyValue → Type 0 = IsWhole in
    subst P (sym is) (λ i l.
    let Q : List Span → Type 0 = λ spans. IsHeld (spans ++ span_of r ∷ []) i in
    subst Q (sym none) (span_of r, inl refl, (omega (arith, over.1), omega (arith, over.2, l))))
