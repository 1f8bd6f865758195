use Rattle.std.proofs.Common.{◌≡◌, Some, [], ◌∷◌, refl, sym}
use Rattle.cat_model.proofs.Walking.{places_call}
use Rattle.cat_model.proofs.Whole.{closure_whole, own_whole, only_whole}
use Rattle.cat_model.specs.Files.{file_of}
use Rattle.cat_model.proofs.walk.Walk.whole.Goals as goal

pub returns-clause-found : goal.returns-clause-found
returns-clause-found c =
    let e : Some c.in-Some.file.now ≡ file_of c.args.self.now.root.now c.args.self.now.files.now = c.in-Some.ensures in
    let p = places_call c.args.self.now.files.now c.args.self.now.root.now [] (c.args.self.now.root ∷ []) (c.args.self.now.root ∷ []) c.in-Some.file.now c.items.result.now c.note.new.self c.items-2.new.draft refl refl c.items.ensures c.in_ok-items.ensures.ok in
    closure_whole c.args.self.now.files.now c.args.self.now.root.now c.in-Some.file.now c.new-draft.result c.note.new.self c.items-2.new.draft (sym e) c.new-draft.ensures.items c.new-draft.ensures.files c.in_ok-note.ensures p

pub returns-clause-own : goal.returns-clause-own
returns-clause-own c =
    let p = places_call c.args.self.now.files.now c.args.self.now.root.now [] (c.args.self.now.root ∷ []) (c.args.self.now.root ∷ []) c.in-Some.file.now c.items.result.now c.note.new.self c.items-2.new.draft refl refl c.items.ensures c.in_ok-items.ensures.ok in
    own_whole c.args.self.now.files.now c.args.self.now.root.now c.in-Some.file.now c.new-draft.result c.note.new.self c.items-2.new.draft c.new-draft.ensures.items c.in_ok-note.ensures p

pub returns-clause-only : goal.returns-clause-only
returns-clause-only c =
    let e : Some c.in-Some.file.now ≡ file_of c.args.self.now.root.now c.args.self.now.files.now = c.in-Some.ensures in
    let p = places_call c.args.self.now.files.now c.args.self.now.root.now [] (c.args.self.now.root ∷ []) (c.args.self.now.root ∷ []) c.in-Some.file.now c.items.result.now c.note.new.self c.items-2.new.draft refl refl c.items.ensures c.in_ok-items.ensures.ok in
    only_whole c.args.self.now.files.now c.args.self.now.root.now c.in-Some.file.now c.note.new.self c.items-2.new.draft (sym e) p c.items-2.new.draft.few
