use Rattle.std.proofs.Common.{◌∷◌, ◌++◌, ◌+◌, length, take, drop, refl, ap, sym, subst, ◌∙◌}
use Rattle.std.proofs.Math.Seq.{drop-length}
use Rattle.scripts.specs.Lines.{IsUnbroken}
use Rattle.scripts.proofs.Counted.{ok_false_is_no_true}
use Rattle.scripts.proofs.Found.{front, nowhere, split}
use Rattle.scripts.proofs.lines.Lines.take_part.Goals as goal

pub returns-in_ok-extend_from_slice-in-Some-clause-fed : goal.returns-in_ok-extend_from_slice-in-Some-clause-fed
returns-in_ok-extend_from_slice-in-Some-clause-fed c _ =
    let rest = c.rest-rest.result.now in
    let place = c.in-Some.place in
    let part = take place rest in
    let first = c.in-Some.ensures in (
      part,
      front 10 rest place first.0,
      c.in_ok-extend_from_slice-in-Some.ensures.items,
      sym c.rest-rest.ensures ∙ split 10 rest place first.0 first.1 ∙ ap (λ l. part ++ (10 ∷ l)) (ap (drop (place + 1)) c.rest-rest.ensures ∙ sym c.skip.ensures),
    )

pub returns-in_ok-extend_from_slice-in-None-clause-fed : goal.returns-in_ok-extend_from_slice-in-None-clause-fed
returns-in_ok-extend_from_slice-in-None-clause-fed c e = ok_false_is_no_true _ refl e

pub returns-in_ok-extend_from_slice-in-None-clause-whole : goal.returns-in_ok-extend_from_slice-in-None-clause-whole
returns-in_ok-extend_from_slice-in-None-clause-whole c _ =
    let rest = c.rest-rest.result.now in (
      subst IsUnbroken c.rest-rest.ensures (nowhere 10 rest c.in-None.ensures),
      c.in_ok-extend_from_slice-in-None.ensures.items ∙ ap (λ l. c.args.self.now.line.items ++ l) c.rest-rest.ensures,
      c.skip-in-None.ensures ∙ ap (drop (length rest)) (sym c.rest-rest.ensures) ∙ drop-length rest,
    )
