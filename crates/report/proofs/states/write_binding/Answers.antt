use Rattle.std.proofs.Common.{[], refl, sym, ◌++◌, append_assoc, codes}
use Rattle.std.proofs.KnownBytes.{Appends-nil, Appends-trans}
use Rattle.report.specs.Texts.{atom_text}
use Rattle.report.proofs.Written.{exit, after}
use Rattle.report.proofs.states.write_binding.Goals as goal

pub returns-in_err-write_bytes : goal.returns-in_err-write_bytes
returns-in_err-write_bytes g c =
    exit _ _ _ _ c.from_residual.result [] _ _ _ c.from_residual.ensures.0 (Appends-nil _) c.in_err-write_bytes.ensures refl

pub returns-in_err-write_atom : goal.returns-in_err-write_atom
returns-in_err-write_atom g c =
    exit _ _ _ _ c.from_residual-in_err-write_atom.result _ _ _ _ c.from_residual-in_err-write_atom.ensures.0 c.in_ok-write_bytes.ensures c.in_err-write_atom.ensures refl

pub returns : goal.returns
returns g c =
    let atom = atom_text c.args.place.now c.args.value in
    after _ _ _ _ _ _ _ (c.args.separator.now ++ (atom ++ codes ";")) (Appends-trans _ _ _ _ _ c.in_ok-write_bytes.ensures c.in_ok-write_atom.ensures) c.write_bytes-2.ensures
    (sym (append_assoc c.args.separator.now atom (codes ";")))
