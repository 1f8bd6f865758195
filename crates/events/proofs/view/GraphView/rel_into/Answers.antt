use Rattle.std.proofs.Common.{◌≡◌, ℕ, refl, subst}
use Rattle.relations.specs.Relation.{IsExactly}
use Rattle.events.specs.declared.named.RelName.TheVariants.{Po, Int, Loc, PoLoc, Rf, Co, Fr, Rfi, Coi, Fri, Rfe, Coe, Fre, Rmw, Data, Ctrl}
use Rattle.events.proofs.Made.{both_named, first_named, ext_named, id_named, addr_named}
use Rattle.events.proofs.Structures.{moved}
use Rattle.events.proofs.view.GraphView.rel_into.Goals as goal

pub returns-in-Ext : goal.returns-in-Ext
returns-in-Ext c = rw c.in-Ext.is (ext_named c.args.self.now _ _ c.int-in-Ext.ensures c.become_complement.ensures)

pub returns-in-PoLoc : goal.returns-in-PoLoc
returns-in-PoLoc c = rw c.in-PoLoc.is (both_named c.args.self.now Po Loc PoLoc _ _ _ (λ d e p q. (p, q)) (λ d e p. p) c.po-in-PoLoc.ensures c.loc-in-PoLoc.ensures c.become_inter.ensures)

pub returns-in-Rfi : goal.returns-in-Rfi
returns-in-Rfi c = rw c.in-Rfi.is (both_named c.args.self.now Rf Int Rfi _ _ _ (λ d e p q. (p, q)) (λ d e p. p) c.rf-in-Rfi.ensures c.int-in-Rfi.ensures c.become_inter-in-Rfi.ensures)

pub returns-in-Coi : goal.returns-in-Coi
returns-in-Coi c = rw c.in-Coi.is (both_named c.args.self.now Co Int Coi _ _ _ (λ d e p q. (p, q)) (λ d e p. p) c.co-in-Coi.ensures c.int-in-Coi.ensures c.become_inter-in-Coi.ensures)

pub returns-in-Fri : goal.returns-in-Fri
returns-in-Fri c = rw c.in-Fri.is (both_named c.args.self.now Fr Int Fri _ _ _ (λ d e p q. (p, q)) (λ d e p. p) c.fr_into-in-Fri.ensures c.int-in-Fri.ensures c.inter_with.ensures)

pub returns-in-Rfe : goal.returns-in-Rfe
returns-in-Rfe c = rw c.in-Rfe.is (first_named c.args.self.now Rf Int Rfe _ _ _ (λ d e p q. (p, q)) (λ d e p. p) c.rf-in-Rfe.ensures c.int-in-Rfe.ensures c.become_minus.ensures)

pub returns-in-Coe : goal.returns-in-Coe
returns-in-Coe c = rw c.in-Coe.is (first_named c.args.self.now Co Int Coe _ _ _ (λ d e p q. (p, q)) (λ d e p. p) c.co-in-Coe.ensures c.int-in-Coe.ensures c.become_minus-in-Coe.ensures)

pub returns-in-Fre : goal.returns-in-Fre
returns-in-Fre c = rw c.in-Fre.is (first_named c.args.self.now Fr Int Fre _ _ _ (λ d e p q. (p, q)) (λ d e p. p) c.fr_into-in-Fre.ensures c.int-in-Fre.ensures c.minus_with.ensures)

pub returns-in-Addr : goal.returns-in-Addr
returns-in-Addr c =
    let P : ℕ → Type 0 = λ n. IsExactly n (λ i j. ⊥) c.become_empty.new.self in
    rw c.in-Addr.is (addr_named c.args.self.now _ (subst P c.count.ensures.is c.become_empty.ensures))

pub returns-in-Id : goal.returns-in-Id
returns-in-Id c =
    let P : ℕ → Type 0 = λ n. IsExactly n (λ i j. i ≡ j) c.become_id.new.self in
    rw c.in-Id.is (id_named c.args.self.now _ (subst P c.count-in-Id.ensures.is c.become_id.ensures))

pub returns-in-Rmw : goal.returns-in-Rmw
returns-in-Rmw c = rw c.in-Rmw.is (moved c.numbered.result c.args.self.now Rmw c.tested_into.new.into refl c.numbered.ensures c.tested_into.ensures)

pub returns-in-Data : goal.returns-in-Data
returns-in-Data c = rw c.in-Data.is (moved c.numbered-in-Data.result c.args.self.now Data c.tested_into-in-Data.new.into refl c.numbered-in-Data.ensures c.tested_into-in-Data.ensures)

pub returns-in-Ctrl : goal.returns-in-Ctrl
returns-in-Ctrl c = rw c.in-Ctrl.is (moved c.numbered-in-Ctrl.result c.args.self.now Ctrl c.tested_into-in-Ctrl.new.into refl c.numbered-in-Ctrl.ensures c.tested_into-in-Ctrl.ensures)
