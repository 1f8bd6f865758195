use Rattle.std.proofs.Common.{◌∙◌, map, ap}
use Rattle.std.specs.Prelude.{Some}
use Rattle.cat_model.specs.Files.{store}
use Rattle.cat_tree.specs.Tree.{clause_of}
use Rattle.cat_places.proofs.Blaming.{fresh, stored_alone}
use Rattle.cat_places.proofs.blame.alone.Goals as goal

pub put-requires : goal.put-requires
put-requires c = fresh c.in_ok-copy.field-0 c.in_ok-files.files c.in_ok-files.ensures

pub returns-in-Ok : goal.returns-in-Ok
returns-in-Ok c =
    c.in-Ok.ensures.ok ∙ ap (λ f. store (record { name = c.in_ok-copy.field-0; version = 1; file = Some f }) c.in_ok-files.files) c.new-2.ensures ∙
    stored_alone c.in_ok-copy.field-0 (map clause_of c.args.items.items) c.in_ok-files.files (c.in_ok-copy.ensures ∙ c.requires) c.in_ok-files.ensures
