use Rattle.std.proofs.Common.{◌≡◌, ◌<◌, ◌≤◌, ◌∙◌, ◌∷◌, [], ◌+◌, Some, true, false, sym, subst, refl, map, length, arith, rules, IsSome}
use Rattle.std.proofs.lemmas.List.{length-map}
use Rattle.std.proofs.lemmas.Result.{err_from_is_err_and, on_ok_weaker, IfErr-weaker}
use Rattle.cat_tree.specs.Tree.{include, clause_of}
use Rattle.cat_model.proofs.Listed.{told, on_path, at_map, long_map}
use Rattle.cat_model.proofs.Whole.{own_item}
use Rattle.cat_model.proofs.Walking.{cycle-here, deep-here, here-inside, fault_full, counts-some, place_include, fault_include, place_own, counts-own, places-none, fault_item, places_more, here_call, length_call, places_call, fault_call, short}
use Rattle.cat_model.specs.Closure.{is_on}
use Rattle.cat_model.specs.Faults.{IsAstray}
use Rattle.cat_model.specs.Files.{file_of}
use Rattle.cat_model.specs.Walks.{IsWalkFault, IsHere, counts_for}
use Rattle.cat_model.specs.declared.fault.ModelFault.TheVariants.{IncludeCycle}
use Rattle.cat_model.proofs.walk.Walk.+walk.Goals as goal

pub include-returns-then-is_on_path-clause-err : goal.include-returns-then-is_on_path-clause-err
include-returns-then-is_on_path-clause-err t c =
    let on : is_on (told c.args.path.now) c.args.name.now ≡ true = on_path c.args.path.now c.args.name.now ∙ (sym c.is_on_path.ensures ∙ c.if-is_on_path.true) in
    subst (λ z. IsAstray (IncludeCycle z) c.args.self.now.files.now c.args.self.now.root.now) (sym c.in_ok-copy-2.ensures)
    (cycle-here c.args.self.now.files.now c.args.self.now.root.now (told c.args.path.now) c.requires.0 c.args.name.now c.requires.1 c.requires.2 on)

pub include-returns-then-path-eq-MOST_FILES-clause-err : goal.include-returns-then-path-eq-MOST_FILES-clause-err
include-returns-then-path-eq-MOST_FILES-clause-err t c =
    let e : Some c.in-Some.file.now ≡ file_of c.args.name.now c.args.self.now.files.now = c.in-Some.ensures in
    let l : 16 ≤ length (told c.args.path.now) = omega (arith, length-map c.args.path.now (λ y. y.now)) in
    deep-here c.args.self.now.files.now c.args.self.now.root.now (told c.args.path.now) c.requires.0 c.args.name.now c.requires.1 c.requires.2 l (subst IsSome e refl) _

pub include-returns-in_err-count_one-clause-err : goal.include-returns-in_err-count_one-clause-err
include-returns-in_err-count_one-clause-err t c =
    let p = err_from_is_err_and c.from_residual-in_err-count_one.result c.from_residual-in_err-count_one.ensures.1 in
    rw (p.1, p.2)
    (subst (λ e. IsWalkFault e c.args.self.now.files.now c.args.self.now.root.now (c.args.draft.now.count + counts_for c.args.self.now.files.now (told c.args.path.now) (include c.args.name.now ∷ []))) (sym c.in_err-count_one.ensures.err.0)
    (fault_full c.args.self.now.files.now c.args.self.now.root.now (told c.args.path.now) (include c.args.name.now) c.args.draft.now.count c.in_err-count_one.ensures.err.1 (counts-some c.args.self.now.files.now (told c.args.path.now) c.args.name.now)))

pub include-items-requires-2 : goal.include-items-requires-2
include-items-requires-2 t c =
    let e : Some c.in-Some.file.now ≡ file_of c.args.name.now c.args.self.now.files.now = c.in-Some.ensures in
    let l : length (told c.args.path.now) < 16 = short c.args.path.now c.requires.1.short c.if-path-eq-MOST_FILES.false in
    let inside = here-inside c.args.self.now.files.now c.args.self.now.root.now (told c.args.path.now) c.requires.0 c.args.name.now c.in-Some.file.now c.requires.1 c.requires.2 (sym e) l in
    let here : IsHere c.args.self.now.files.now c.args.self.now.root.now (told c.deref.result.now) (map clause_of c.items.result.now) =
    here_call c.args.self.now.files.now c.args.self.now.root.now c.args.name.now (told c.args.path.now) c.in_ok-longer.longer.items c.deref.result.now c.in-Some.file.now c.items.result.now c.deref.ensures.value c.in_ok-longer.ensures c.items.ensures inside in
    let long : length c.deref.result.now ≡ length c.args.path.now + 1 = length_call c.args.name.now c.args.path.now c.in_ok-longer.longer.items c.deref.result.now c.deref.ensures.value c.in_ok-longer.ensures in
    let m = length-map c.args.path.now (λ y. y.now) in
    let d = c.decreases in
    search rules

pub include-returns-clause-ok : goal.include-returns-clause-ok
include-returns-clause-ok t c =
    let e : Some c.in-Some.file.now ≡ file_of c.args.name.now c.args.self.now.files.now = c.in-Some.ensures in
    let l : length (told c.args.path.now) < 16 = short c.args.path.now c.requires.1.short c.if-path-eq-MOST_FILES.false in
    let o : is_on (told c.args.path.now) c.args.name.now ≡ false = on_path c.args.path.now c.args.name.now ∙ (sym c.is_on_path.ensures ∙ c.if-is_on_path.false) in
    on_ok_weaker c.items-2.result
    (λ p. place_include c.args.self.now.files.now (told c.args.path.now) c.args.name.now c.in-Some.file.now c.args.draft.now c.count_one.new.self c.note.new.self c.items-2.new.draft (sym e) o l
    c.in_ok-count_one.ensures.ok.0 c.in_ok-count_one.ensures.ok.1 c.in_ok-count_one.ensures.ok.2 c.in_ok-note.ensures
    (places_call c.args.self.now.files.now c.args.name.now (told c.args.path.now) c.in_ok-longer.longer.items c.deref.result.now c.in-Some.file.now c.items.result.now c.note.new.self c.items-2.new.draft c.deref.ensures.value c.in_ok-longer.ensures c.items.ensures p))
    c.items-2.ensures.ok

pub include-returns-clause-err : goal.include-returns-clause-err
include-returns-clause-err t c =
    let e : Some c.in-Some.file.now ≡ file_of c.args.name.now c.args.self.now.files.now = c.in-Some.ensures in
    let l : length (told c.args.path.now) < 16 = short c.args.path.now c.requires.1.short c.if-path-eq-MOST_FILES.false in
    let o : is_on (told c.args.path.now) c.args.name.now ≡ false = on_path c.args.path.now c.args.name.now ∙ (sym c.is_on_path.ensures ∙ c.if-is_on_path.false) in
    IfErr-weaker c.items-2.result _ _
    (λ y h. fault_include y c.args.self.now.files.now c.args.self.now.root.now (told c.args.path.now) c.args.name.now c.in-Some.file.now c.args.draft.now c.count_one.new.self c.note.new.self (sym e) o l
    c.in_ok-count_one.ensures.ok.0 c.in_ok-note.ensures
    (fault_call y c.args.self.now.files.now c.args.self.now.root.now c.args.name.now (told c.args.path.now) c.in_ok-longer.longer.items c.deref.result.now c.in-Some.file.now c.items.result.now c.note.new.self.count c.deref.ensures.value c.in_ok-longer.ensures c.items.ensures h))
    c.items-2.ensures.err

pub item-returns-in_err-count_one-in_default : goal.item-returns-in_err-count_one-in_default
item-returns-in_err-count_one-in_default t c =
    let own = own_item c.args.item.now c.in_default.not-Include in
    let some : 1 ≤ counts_for c.args.self.now.files.now (told c.args.path.now) (clause_of c.args.item.now ∷ []) = omega (arith, counts-own c.args.self.now.files.now (told c.args.path.now) (clause_of c.args.item.now) own) in
    let p = err_from_is_err_and c.from_residual.result c.from_residual.ensures.1 in
    rw (p.1, p.2) (record {
      ok = tt;
      err = subst (λ e. IsWalkFault e c.args.self.now.files.now c.args.self.now.root.now (c.args.draft.now.count + counts_for c.args.self.now.files.now (told c.args.path.now) (clause_of c.args.item.now ∷ []))) (sym c.in_err-count_one-in_default.ensures.err.0)
          (fault_full c.args.self.now.files.now c.args.self.now.root.now (told c.args.path.now) (clause_of c.args.item.now) c.args.draft.now.count c.in_err-count_one-in_default.ensures.err.1 some);
    })

pub item-returns-in_ok-add-in_default : goal.item-returns-in_ok-add-in_default
item-returns-in_ok-add-in_default t c = record {
  ok = place_own c.args.self.now.files.now (told c.args.path.now) (clause_of c.args.item.now) c.args.draft.now c.count_one.new.self c.add.new.self (own_item c.args.item.now c.in_default.not-Include)
      c.in_ok-count_one-in_default.ensures.ok.0 c.in_ok-count_one-in_default.ensures.ok.1 c.in_ok-count_one-in_default.ensures.ok.2
      c.in_ok-add-in_default.ensures.items c.in_ok-add-in_default.ensures.files c.in_ok-add-in_default.ensures.count;
  err = tt;
}

pub items-loop-item-init : goal.items-loop-item-init
items-loop-item-init t c = places-none c.args.self.now.files.now (told c.args.path.now) c.args.draft.now

pub items-returns-in_err-item-clause-err : goal.items-returns-in_err-item-clause-err
items-returns-in_err-item-clause-err t c =
    let p = err_from_is_err_and c.from_residual.result c.from_residual.ensures.1 in
    rw (p.1, p.2)
    (fault_item c.in_err-item.field-0.0 c.args.self.now.files.now c.args.self.now.root.now (told c.args.path.now) (map clause_of c.args.items.now) c.loop-item.item-index (clause_of c.item-item.result) c.args.draft.now c.loop-item.draft
    (long_map clause_of c.args.items.now c.loop-item.item-index c.loop-item-test.true) (at_map clause_of c.args.items.now c.loop-item.item-index c.item-item.result c.loop-item-test.true c.item-item.is) c.loop-item.invariant c.in_err-item.ensures.err)

pub items-loop-item-preserved : goal.items-loop-item-preserved
items-loop-item-preserved t c =
    places_more c.args.self.now.files.now (told c.args.path.now) (map clause_of c.args.items.now) c.loop-item.item-index (clause_of c.item-item.result) c.args.draft.now c.loop-item.draft c.item.new.draft
    (long_map clause_of c.args.items.now c.loop-item.item-index c.loop-item-test.true) (at_map clause_of c.args.items.now c.loop-item.item-index c.item-item.result c.loop-item-test.true c.item-item.is) c.loop-item.invariant c.in_ok-item.ensures.ok
