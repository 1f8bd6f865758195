-- An execution as text.
use Rattle.std.specs.Prelude.{ℕ, List, [], ◌∷◌, ◌++◌, Option, None, Some, option_map, codes, decimal, flat_map}
use Rattle.events.specs.declared.event.EventId.{EventId}
use Rattle.events.specs.declared.event.EventId.TheVariants.{Initial, Own}
use Rattle.drawing.specs.declared.arrows.Arrow.{Arrow}
use Rattle.drawing.specs.declared.arrows.Relation.{Relation}
use Rattle.drawing.specs.declared.arrows.Relation.TheVariants.{Po, Rf, Co, Fr, Rmw}
use Rattle.drawing.specs.declared.drawing.Broken.{Broken}
use Rattle.drawing.specs.declared.drawing.Chain.{Chain}
use Rattle.drawing.specs.declared.drawing.Drawing.{Drawing}
use Rattle.drawing.specs.declared.drawing.Step.{Step}
use Rattle.drawing.specs.declared.group.Group.{Group}
use Rattle.drawing.specs.declared.group.Group.TheVariants.{InitialWrites, Threads}
use Rattle.drawing.specs.Arrows.{arrows_of}
use Rattle.drawing.specs.Naming.{SceneValue, members, name_of}
use Rattle.drawing.specs.Telling.{called, event_text}

-- LINES

abbrev pub line : List ℕ → List ℕ
line text = text ++ codes "\n"

-- the thread of an event: `P0 `
abbrev pub thread_text : EventId → List ℕ
thread_text (Initial x) = []
thread_text (Own k p) = codes "P" ++ decimal k ++ codes " "

-- `a: P0 W x=1 rlx`
unfoldable pub event_line : SceneValue → EventId → List ℕ
event_line s e = line (called s e ++ codes ": " ++ thread_text e ++ event_text s e)

abbrev pub event_lines : SceneValue → Group → List ℕ
event_lines s group = flat_map (event_line s) (members s.graph group)

abbrev pub relation_text : Relation → List ℕ
relation_text Po = codes "po"
relation_text Rf = codes "rf"
relation_text Co = codes "co"
relation_text Fr = codes "fr"
relation_text Rmw = codes "rmw"

-- ` a->b`
unfoldable pub pair_text : SceneValue → Arrow → List ℕ
pair_text s a = codes " " ++ called s a.from ++ codes "->" ++ called s a.to

-- the pairs of a relation; one that has none has no line
abbrev pub pairs_line : SceneValue → Relation → List Arrow → List ℕ
pairs_line s r [] = []
pairs_line s r (a ∷ as') = line (relation_text r ++ codes ":" ++ flat_map (pair_text s) (a ∷ as'))

abbrev pub relation_line : SceneValue → Relation → List ℕ
relation_line s r = pairs_line s r (arrows_of s.graph r)

-- names, parted by commas
abbrev pub listed : List (List ℕ) → List ℕ
listed [] = []
listed (n ∷ ns) = n ++ flat_map (λ m. codes "," ++ m) ns

-- ` -po-> b`
abbrev pub step_text : SceneValue → Step → List ℕ
step_text s p = codes " -" ++ listed p.labels.items ++ codes "-> " ++ name_of s.graph p.to

-- `a -po-> b -fr-> c`
abbrev pub chain_text : SceneValue → Chain → List ℕ
chain_text s c = name_of s.graph c.first ++ flat_map (step_text s) c.steps.items

-- THE WHOLE

abbrev pub model_text : Option (List ℕ) → List ℕ
model_text None = []
model_text (Some m) = codes " under " ++ m

-- `SB under sc`
unfoldable pub title : Drawing → List ℕ
title d = d.name.now ++ model_text (option_map (λ m. m.now) d.model)

abbrev pub evidence_text : SceneValue → Option Chain → List ℕ
evidence_text s None = []
evidence_text s (Some c) = codes ": " ++ chain_text s c

-- the check that is broken, with the evidence
unfoldable pub broken_line : SceneValue → Broken → List ℕ
broken_line s b = line (codes "breaks " ++ b.check.now ++ evidence_text s (option_map (λ c. c.now) b.chain))

abbrev pub broken_lines : SceneValue → Option Broken → List ℕ
broken_lines s None = []
broken_lines s (Some b) = broken_line s b

-- the events in the order of their names, and the relations
unfoldable pub execution_lines : SceneValue → List ℕ
execution_lines s = event_lines s Threads ++ event_lines s InitialWrites ++ relation_line s Rf ++ relation_line s Co ++ relation_line s Fr ++ relation_line s Rmw

abbrev pub scene_of : Drawing → SceneValue
scene_of d = record { graph = d.graph.now; locations = d.locations.now }

-- The text.
unfoldable pub Text : Drawing → List ℕ
Text d = line (title d) ++ execution_lines (scene_of d) ++ broken_lines (scene_of d) d.broken
