use Rattle.std.proofs.Common.{◌∙◌, ◌≡◌, List, ℕ, ap, refl, map, length}
use Rattle.std.specs.Prelude.{codes}
use Rattle.std.proofs.lemmas.Result.{on_ok_weaker}
use Rattle.report.specs.Texts.{kind_text}
use Rattle.serde_json.specs.Data.{Members, array, boolean, no_members, number, object, put, string, unsigned}
use Rattle.serde_json.specs.View.{items_of, members_view}
use Rattle.slices.specs.Findings.{is_ok, word}
use Rattle.suite.proofs.Objects.{put_on, view-Bool}
use Rattle.suite.proofs.json.put_members.Goals as goal

pub returns : goal.returns
returns c =
    let v = c.args.finding.now in
    let m0 : Members = no_members in
    let e0 : members_view c.args.members.now.entries ≡ m0 = ap members_view c.requires in
    let m1 : Members = put (codes "digests") (string c.args.case.now.digests.now) m0 in
    let e1 : members_view c.put_text.new.members.entries ≡ m1 = put_on (codes "digests") _ (string c.args.case.now.digests.now) m0 (members_view c.args.members.now.entries) (members_view c.put_text.new.members.entries) e0 c.in_ok-put_text.ensures refl in
    let m2 : Members = put (codes "file") (string c.args.case.now.path.now) m1 in
    let e2 : members_view c.put_text-2.new.members.entries ≡ m2 = put_on (codes "file") _ (string c.args.case.now.path.now) m1 (members_view c.put_text.new.members.entries) (members_view c.put_text-2.new.members.entries) e1 c.in_ok-put_text-2.ensures refl in
    let m3 : Members = put (codes "flags") (array (items_of (map string v.flags))) m2 in
    let e3 : members_view c.put.new.map.entries ≡ m3 = put_on (codes "flags") _ (array (items_of (map string v.flags))) m2 (members_view c.put_text-2.new.members.entries) (members_view c.put.new.map.entries) e2 c.in_ok-put.ensures.ok (c.in_ok-array_of.ensures ∙ ap (λ (fs : List (List ℕ)). array (items_of (map string fs))) c.flags.ensures) in
    let m4 : Members = put (codes "kind") (string (kind_text v.kind)) m3 in
    let e4 : members_view c.put_text-3.new.members.entries ≡ m4 = put_on (codes "kind") _ (string (kind_text v.kind)) m3 (members_view c.put.new.map.entries) (members_view c.put_text-3.new.members.entries) e3 c.in_ok-put_text-3.ensures (ap string c.kind_text.ensures ∙ ap (λ k. string (kind_text k)) c.kind.ensures) in
    let m5 : Members = put (codes "milliseconds") (number (unsigned c.args.milliseconds)) m4 in
    let e5 : members_view c.put_number.new.members.entries ≡ m5 = put_on (codes "milliseconds") _ (number (unsigned c.args.milliseconds)) m4 (members_view c.put_text-3.new.members.entries) (members_view c.put_number.new.members.entries) e4 c.in_ok-put_number.ensures refl in
    let m6 : Members = put (codes "model") (string c.args.case.now.model.now) m5 in
    let e6 : members_view c.put_text-4.new.members.entries ≡ m6 = put_on (codes "model") _ (string c.args.case.now.model.now) m5 (members_view c.put_number.new.members.entries) (members_view c.put_text-4.new.members.entries) e5 c.in_ok-put_text-4.ensures refl in
    let m7 : Members = put (codes "name") (string v.name) m6 in
    let e7 : members_view c.put_text-5.new.members.entries ≡ m7 = put_on (codes "name") _ (string v.name) m6 (members_view c.put_text-4.new.members.entries) (members_view c.put_text-5.new.members.entries) e6 c.in_ok-put_text-5.ensures (ap string (c.text_of.ensures ∙ c.name.ensures)) in
    let m8 : Members = put (codes "negative") (number (unsigned v.negative)) m7 in
    let e8 : members_view c.put_number-2.new.members.entries ≡ m8 = put_on (codes "negative") _ (number (unsigned v.negative)) m7 (members_view c.put_text-5.new.members.entries) (members_view c.put_number-2.new.members.entries) e7 c.in_ok-put_number-2.ensures (ap (λ n. number (unsigned n)) c.negative.ensures) in
    let m9 : Members = put (codes "ok") (boolean (is_ok v)) m8 in
    let e9 : members_view c.put-2.new.map.entries ≡ m9 = put_on (codes "ok") _ (boolean (is_ok v)) m8 (members_view c.put_number-2.new.members.entries) (members_view c.put-2.new.map.entries) e8 c.in_ok-put-2.ensures.ok (view-Bool c.ok.result ∙ ap boolean c.ok.ensures) in
    let m10 : Members = put (codes "positive") (number (unsigned v.positive)) m9 in
    let e10 : members_view c.put_number-3.new.members.entries ≡ m10 = put_on (codes "positive") _ (number (unsigned v.positive)) m9 (members_view c.put-2.new.map.entries) (members_view c.put_number-3.new.members.entries) e9 c.in_ok-put_number-3.ensures (ap (λ n. number (unsigned n)) c.positive.ensures) in
    let m11 : Members = put (codes "states") (number (unsigned (length v.states))) m10 in
    let e11 : members_view c.put_number-4.new.members.entries ≡ m11 = put_on (codes "states") _ (number (unsigned (length v.states))) m10 (members_view c.put_number-3.new.members.entries) (members_view c.put_number-4.new.members.entries) e10 c.in_ok-put_number-4.ensures (ap (λ n. number (unsigned n)) (c.len.ensures.len ∙ ap length c.states.ensures)) in
    on_ok_weaker c.put_text-6.result
    (λ e. ap object (put_on (codes "word") _ (string (word v)) m11 (members_view c.put_number-4.new.members.entries) (members_view c.put_text-6.new.members.entries) e11 e (ap string c.word.ensures)))
    c.put_text-6.ensures
