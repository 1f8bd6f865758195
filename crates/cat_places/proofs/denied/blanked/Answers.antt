use Rattle.std.proofs.Common.{◌≡◌, ◌∙◌, ap, length, take, rules}
use Rattle.cat_places.specs.Denied.{blanked as blanked_text}
use Rattle.cat_places.proofs.Denying.{blanked_is, length_blanked}
use Rattle.cat_places.proofs.denied.blanked.Goals as goal

pub returns-clause-made : goal.returns-clause-made
returns-clause-made c =
    let front : c.in_ok-changed.changed.items ≡ take c.args.token.now.from c.args.text.now = search rules in
    blanked_is c.args.text.now c.in_ok-changed.changed.items c.push.new.self.items c.resize.new.self.items c.behind-rest.result.now c.extend_from_slice.new.self.items c.args.token.now _ c.requires
    front c.in_ok-push.ensures.items (search rules) c.in_ok-resize.ensures.items c.behind-rest.ensures c.in_ok-extend_from_slice.ensures.items

pub returns-clause-same : goal.returns-clause-same
returns-clause-same c =
    let front : c.in_ok-changed.changed.items ≡ take c.args.token.now.from c.args.text.now = search rules in
    let made : c.extend_from_slice.new.self.items ≡ blanked_text c.args.text.now c.args.token.now =
    blanked_is c.args.text.now c.in_ok-changed.changed.items c.push.new.self.items c.resize.new.self.items c.behind-rest.result.now c.extend_from_slice.new.self.items c.args.token.now _ c.requires
    front c.in_ok-push.ensures.items (search rules) c.in_ok-resize.ensures.items c.behind-rest.ensures c.in_ok-extend_from_slice.ensures.items in
    ap length made ∙ length_blanked c.args.text.now c.args.token.now c.requires
