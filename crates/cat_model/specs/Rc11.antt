-- The built-in model rc11.cat, this project's own text after RC11. (Lahav, Vafeiadis, Kang, Hur, Dreyer 2017: Repairing sequential consistency in C/C++11.)
use Rattle.std.specs.Prelude.{List, [], ◌∷◌, Some, codes, false, true}
use Rattle.cat_tree.specs.declared.tree.CheckKind.TheVariants.{Acyclic, Irreflexive, Empty}
use Rattle.cat_tree.specs.Tree.{Word, Term, union, sequence, difference, intersection, product, plus, star, optional, inverse, identity, name, universe, Clause, bind, check, File}

-- a | b, a ; b, a \ b, a & b and a * b
infixr 10 ◌∪◌
abbrev pub ◌∪◌ : Term → Term → Term
a ∪ b = union a b

infixr 20 ◌⨾◌
abbrev pub ◌⨾◌ : Term → Term → Term
a ⨾ b = sequence a b

infixl 30 ◌∖◌
abbrev pub ◌∖◌ : Term → Term → Term
a ∖ b = difference a b

infixr 40 ◌∩◌
abbrev pub ◌∩◌ : Term → Term → Term
a ∩ b = intersection a b

infixl 50 ◌⊗◌
abbrev pub ◌⊗◌ : Term → Term → Term
a ⊗ b = product a b

-- let x = a
abbrev pub define : Word → Term → Clause
define x a = bind (record { name = x; parameters = []; value = a } ∷ [])

-- the names
abbrev pub W : Term
W = name (codes "W")

abbrev pub R : Term
R = name (codes "R")

abbrev pub F : Term
F = name (codes "F")

abbrev pub M : Term
M = name (codes "M")

abbrev pub A : Term
A = name (codes "A")

abbrev pub IW : Term
IW = name (codes "IW")

abbrev pub REL : Term
REL = name (codes "REL")

abbrev pub ACQ : Term
ACQ = name (codes "ACQ")

abbrev pub ACQ_REL : Term
ACQ_REL = name (codes "ACQ_REL")

abbrev pub SC : Term
SC = name (codes "SC")

abbrev pub po : Term
po = name (codes "po")

abbrev pub loc : Term
loc = name (codes "loc")

abbrev pub rf : Term
rf = name (codes "rf")

abbrev pub co : Term
co = name (codes "co")

abbrev pub rmw : Term
rmw = name (codes "rmw")

abbrev pub id : Term
id = name (codes "id")

abbrev pub sb : Term
sb = name (codes "sb")

abbrev pub rb : Term
rb = name (codes "rb")

abbrev pub eco : Term
eco = name (codes "eco")

abbrev pub rel : Term
rel = name (codes "rel")

abbrev pub acq : Term
acq = name (codes "acq")

abbrev pub rs : Term
rs = name (codes "rs")

abbrev pub sw : Term
sw = name (codes "sw")

abbrev pub hb : Term
hb = name (codes "hb")

abbrev pub sbx : Term
sbx = name (codes "sbx")

abbrev pub scb : Term
scb = name (codes "scb")

abbrev pub fsc : Term
fsc = name (codes "fsc")

abbrev pub base : Term
base = name (codes "base")

abbrev pub fence : Term
fence = name (codes "fence")

abbrev pub conflict : Term
conflict = name (codes "conflict")

abbrev pub race : Term
race = name (codes "race")

-- the items
abbrev pub define_sb : Clause
define_sb = define (codes "sb") (po ∪ (IW ⊗ (universe ∖ IW)))

abbrev pub define_rb : Clause
define_rb = define (codes "rb") (inverse rf ⨾ co)

abbrev pub define_eco : Clause
define_eco = define (codes "eco") (plus (rf ∪ (co ∪ rb)))

abbrev pub define_rel : Clause
define_rel = define (codes "rel") (REL ∪ (ACQ_REL ∪ SC))

abbrev pub define_acq : Clause
define_acq = define (codes "acq") (ACQ ∪ (ACQ_REL ∪ SC))

abbrev pub define_rs : Clause
define_rs = define (codes "rs") (identity W ⨾ (optional (sb ∩ loc) ⨾ (identity (W ∩ A) ⨾ star (rf ⨾ rmw))))

abbrev pub define_sw : Clause
define_sw =
    define (codes "sw")
    (identity rel ⨾ (optional (identity F ⨾ sb) ⨾ (rs ⨾ (rf ⨾ (identity (R ∩ A) ⨾ (optional (sb ⨾ identity F) ⨾ identity acq))))))

abbrev pub define_hb : Clause
define_hb = define (codes "hb") (plus (sb ∪ sw))

abbrev pub coherence : Clause
coherence = check false false Irreflexive (hb ⨾ optional eco) (Some (codes "coherence"))

abbrev pub atomicity : Clause
atomicity = check false false Empty (rmw ∩ (rb ⨾ co)) (Some (codes "atomicity"))

abbrev pub no_thin_air : Clause
no_thin_air = check false false Acyclic (sb ∪ rf) (Some (codes "no-thin-air"))

abbrev pub define_sbx : Clause
define_sbx = define (codes "sbx") (sb ∖ loc)

abbrev pub define_scb : Clause
define_scb = define (codes "scb") (sb ∪ ((sbx ⨾ (hb ⨾ sbx)) ∪ ((hb ∩ loc) ∪ (co ∪ rb))))

abbrev pub define_fsc : Clause
define_fsc = define (codes "fsc") (identity (F ∩ SC))

abbrev pub define_base : Clause
define_base = define (codes "base") ((identity SC ∪ (fsc ⨾ optional hb)) ⨾ (scb ⨾ (identity SC ∪ (optional hb ⨾ fsc))))

abbrev pub define_fence : Clause
define_fence = define (codes "fence") (fsc ⨾ ((hb ∪ (hb ⨾ (eco ⨾ hb))) ⨾ fsc))

abbrev pub sc : Clause
sc = check false false Acyclic (base ∪ fence) (Some (codes "sc"))

abbrev pub define_conflict : Clause
define_conflict = define (codes "conflict") ((((W ⊗ M) ∪ (M ⊗ W)) ∩ loc) ∖ id)

abbrev pub define_race : Clause
define_race = define (codes "race") (conflict ∖ ((A ⊗ A) ∪ (hb ∪ inverse hb)))

abbrev pub data_race : Clause
data_race = check true true Empty race (Some (codes "data-race"))

abbrev pub items : List Clause
items =
    define_sb ∷ define_rb ∷ define_eco ∷ define_rel ∷ define_acq ∷ define_rs ∷ define_sw ∷ define_hb ∷ coherence ∷ atomicity ∷
    no_thin_air ∷ define_sbx ∷ define_scb ∷ define_fsc ∷ define_base ∷ define_fence ∷ sc ∷ define_conflict ∷ define_race ∷ data_race ∷ []

unfoldable pub rc11 : File
rc11 = record { title = Some (codes "RC11"); items = items }
