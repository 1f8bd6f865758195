use Rattle.std.proofs.Common.{◌≡◌, ◌∙◌, ℕ, List, sym, ap, subst, get_or, length, take, arith, rules}
use Rattle.std.specs.Prelude.{option_map}
use Rattle.wb_text.specs.declared.token.Token.{Token}
use Rattle.cat_syntax.specs.Reads.{Reads}
use Rattle.cat_tree.specs.Tree.{File}
use Rattle.cat_places.specs.Places.{AreRead}
use Rattle.cat_places.specs.Walks.{visits}
use Rattle.cat_places.specs.declared.walk.Visit.{Visit}
use Rattle.cat_places.proofs.Placing.{some_match, nowhere_blamed, nowhere_sourced, told_in, told_moved}
use Rattle.cat_places.proofs.model.place_of.Goals as goal

pub visits_before-before-requires : goal.visits_before-before-requires
visits_before-before-requires c = omega (arith, c.in-Some-get.ensures.lookup.3.0, ap length (c.deref-4.ensures.value ∙ sym c.deref-5.ensures.value))

pub returns-in_default-2-clause-place : goal.returns-in_default-2-clause-place
returns-in_default-2-clause-place c =
    let once : (fs : List File) → AreRead c.args.sources.now fs → fs ≡ c.deref-2.result.now = λ fs read. some_match c.in_ok-files.field-0 c.in-Some.files _ _ c.in-Some.is c.in_ok-files.ensures fs read ∙ sym c.deref-2.ensures.value in
    let all : c.deref-3.result.now ≡ visits c.args.sources.now c.deref-2.result.now = c.deref-3.ensures.value ∙ c.in_ok-visits.ensures ∙ ap (visits c.args.sources.now) (c.deref.ensures.value ∙ sym c.deref-2.ensures.value) in
    nowhere_blamed c.args.sources.now c.deref-2.result.now c.args.fault.now _ c.deref-3.result.now once all (λ k b. c.in_default-2.not-Some k (c.in_ok-number.ensures.only k b))

pub returns-in_default-get-2-clause-place : goal.returns-in_default-get-2-clause-place
returns-in_default-get-2-clause-place c =
    let once : (fs : List File) → AreRead c.args.sources.now fs → fs ≡ c.deref-2.result.now = λ fs read. some_match c.in_ok-files.field-0 c.in-Some.files _ _ c.in-Some.is c.in_ok-files.ensures fs read ∙ sym c.deref-2.ensures.value in
    let all : c.deref-3.result.now ≡ visits c.args.sources.now c.deref-2.result.now = c.deref-3.ensures.value ∙ c.in_ok-visits.ensures ∙ ap (visits c.args.sources.now) (c.deref.ensures.value ∙ sym c.deref-2.ensures.value) in
    let visit : Visit = c.in-Some-get.visit.now in
    let look : visit ≡ get_or c.deref-3.result.now c.in-Some-2.number visit = c.in-Some-get.ensures.lookup.3.1 visit ∙ ap (λ l. get_or l c.in-Some-2.number visit) (c.deref-4.ensures.value ∙ sym c.deref-3.ensures.value) in
    nowhere_sourced c.args.sources.now c.deref-2.result.now c.args.fault.now _ c.deref-3.result.now c.in-Some-2.number visit once all (λ k b. sym c.in-Some-2.is ∙ c.in_ok-number.ensures.only k b) look (search rules)

pub returns-in-Some-3-clause-place : goal.returns-in-Some-3-clause-place
returns-in-Some-3-clause-place c =
    let once : (fs : List File) → AreRead c.args.sources.now fs → fs ≡ c.deref-2.result.now = λ fs read. some_match c.in_ok-files.field-0 c.in-Some.files _ _ c.in-Some.is c.in_ok-files.ensures fs read ∙ sym c.deref-2.ensures.value in
    let all : c.deref-3.result.now ≡ visits c.args.sources.now c.deref-2.result.now = c.deref-3.ensures.value ∙ c.in_ok-visits.ensures ∙ ap (visits c.args.sources.now) (c.deref.ensures.value ∙ sym c.deref-2.ensures.value) in
    let visit : Visit = c.in-Some-get.visit.now in
    let look : visit ≡ get_or c.deref-3.result.now c.in-Some-2.number visit = c.in-Some-get.ensures.lookup.3.1 visit ∙ ap (λ l. get_or l c.in-Some-2.number visit) (c.deref-4.ensures.value ∙ sym c.deref-3.ensures.value) in
    let there = c.in-Some-get-2.ensures.lookup.3 in
    let source = c.in-Some-get-2.source.now in
    let text = c.deref-7.ensures.value in
    told_in c.args.sources.now c.deref-2.result.now c.args.fault.now _ c.deref-3.result.now c.in-Some-2.number visit source c.in_ok-token.field-0 once all
    (λ k b. sym c.in-Some-2.is ∙ c.in_ok-number.ensures.only k b) look there.0 (there.1 source)
    (λ f r. told_moved c.deref-6.result.now c.deref-2.result.now c.visits_before-before.result.now (take c.in-Some-2.number c.deref-3.result.now) visit c.deref-7.result.now source.text.items c.args.fault.now c.in_ok-token.field-0
    (c.deref-6.ensures.value ∙ sym c.deref-2.ensures.value) (c.visits_before-before.ensures ∙ ap (take c.in-Some-2.number) (c.deref-5.ensures.value ∙ sym c.deref-3.ensures.value)) text
    (c.in_ok-token.ensures f (subst (λ (l : List ℕ). Reads l f) (sym text) r)))
    (sym (ap (option_map (λ (t : Token). (visit.source, t.from))) c.in-Some-3.is))

pub returns-clause-place : goal.returns-clause-place
returns-clause-place c =
    let once : (fs : List File) → AreRead c.args.sources.now fs → fs ≡ c.deref-2.result.now = λ fs read. some_match c.in_ok-files.field-0 c.in-Some.files _ _ c.in-Some.is c.in_ok-files.ensures fs read ∙ sym c.deref-2.ensures.value in
    let all : c.deref-3.result.now ≡ visits c.args.sources.now c.deref-2.result.now = c.deref-3.ensures.value ∙ c.in_ok-visits.ensures ∙ ap (visits c.args.sources.now) (c.deref.ensures.value ∙ sym c.deref-2.ensures.value) in
    let visit : Visit = c.in-Some-get.visit.now in
    let look : visit ≡ get_or c.deref-3.result.now c.in-Some-2.number visit = c.in-Some-get.ensures.lookup.3.1 visit ∙ ap (λ l. get_or l c.in-Some-2.number visit) (c.deref-4.ensures.value ∙ sym c.deref-3.ensures.value) in
    let there = c.in-Some-get-2.ensures.lookup.3 in
    let source = c.in-Some-get-2.source.now in
    let text = c.deref-7.ensures.value in
    told_in c.args.sources.now c.deref-2.result.now c.args.fault.now _ c.deref-3.result.now c.in-Some-2.number visit source c.in_ok-token.field-0 once all
    (λ k b. sym c.in-Some-2.is ∙ c.in_ok-number.ensures.only k b) look there.0 (there.1 source)
    (λ f r. told_moved c.deref-6.result.now c.deref-2.result.now c.visits_before-before.result.now (take c.in-Some-2.number c.deref-3.result.now) visit c.deref-7.result.now source.text.items c.args.fault.now c.in_ok-token.field-0
    (c.deref-6.ensures.value ∙ sym c.deref-2.ensures.value) (c.visits_before-before.ensures ∙ ap (take c.in-Some-2.number) (c.deref-5.ensures.value ∙ sym c.deref-3.ensures.value)) text
    (c.in_ok-token.ensures f (subst (λ (l : List ℕ). Reads l f) (sym text) r)))
    (sym (ap (option_map (λ (t : Token). (visit.source, t.from))) c.in-None.is))
