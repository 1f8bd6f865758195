-- An execution as a file for Graphviz. (The DOT language, of Graphviz's documentation.)
use Rattle.std.specs.Prelude.{ℕ, List, [], ◌∷◌, ◌++◌, Bool, true, false, ◌==◌, ◌&&◌, ◌||◌, Option, None, Some, option_map, codes, decimal, flat_map, length, nat_lt, if◌then◌else◌}
use Rattle.listings.specs.Lists.{tabulate}
use Rattle.events.specs.declared.event.EventId.{EventId}
use Rattle.events.specs.declared.event.EventId.TheVariants.{Initial, Own}
use Rattle.drawing.specs.declared.arrows.Arrow.{Arrow}
use Rattle.drawing.specs.declared.arrows.Relation.{Relation}
use Rattle.drawing.specs.declared.arrows.Relation.TheVariants.{Po, Rf, Co, Fr, Rmw}
use Rattle.drawing.specs.declared.drawing.Broken.{Broken}
use Rattle.drawing.specs.declared.drawing.Chain.{Chain}
use Rattle.drawing.specs.declared.drawing.Drawing.{Drawing}
use Rattle.drawing.specs.declared.drawing.Step.{Step}
use Rattle.drawing.specs.declared.group.Group.{Group}
use Rattle.drawing.specs.declared.group.Group.TheVariants.{InitialWrites, Thread, Firsts}
use Rattle.drawing.specs.Arrows.{arrows_of}
use Rattle.drawing.specs.Naming.{SceneValue, members, number_of, event_of, name_of}
use Rattle.drawing.specs.Telling.{called, event_text}
use Rattle.drawing.specs.Texts.{listed, title, scene_of}

-- TEXTS IN QUOTES

-- A byte of a text between quotes. A label reads a backslash and `&` as signs of its own.
abbrev pub quoted_byte : ℕ → List ℕ
quoted_byte b = if b == 34 then codes "\\\"" else if b == 92 then codes "\\\\" else if b == 38 then codes "&amp;" else b ∷ []

abbrev pub quoted : List ℕ → List ℕ
quoted text = flat_map quoted_byte text

-- EVENTS

-- what the label of an event tells of it
abbrev pub told : SceneValue → EventId → List ℕ
told s e = quoted (event_text s e)

unfoldable pub node_line : SceneValue → EventId → List ℕ
node_line s e = codes "    " ++ called s e ++ codes " [label=\"" ++ called s e ++ codes ": " ++ told s e ++ codes "\"]\n"

abbrev pub nodes : SceneValue → Group → List ℕ
nodes s group = flat_map (node_line s) (members s.graph group)

-- A row with the initial writes, and with a place from which what comes first in each thread is kept below the row.
unfoldable pub initial_row : SceneValue → List ℕ
initial_row s = codes "  {\n    rank=same\n    start [style=invis, width=0, label=\"\"]\n" ++ nodes s InitialWrites ++ codes "  }\n"

abbrev pub cluster_head : ℕ → List ℕ
cluster_head k = codes "  subgraph cluster_" ++ decimal k ++ codes " {\n    label=\"P" ++ decimal k ++ codes "\"\n"

unfoldable pub cluster : SceneValue → ℕ → List ℕ
cluster s k = cluster_head k ++ nodes s (Thread k) ++ codes "  }\n"

unfoldable pub below_line : SceneValue → EventId → List ℕ
below_line s e = codes "  start -> " ++ called s e ++ codes " [style=invis, weight=0]\n"

abbrev pub below_lines : SceneValue → List ℕ
below_lines s = flat_map (below_line s) (members s.graph Firsts)

-- ARROWS

-- from an initial write, or to a later event of the thread
abbrev pub leads_down : EventId → EventId → Bool
leads_down (Initial x) e = true
leads_down (Own k p) (Initial y) = false
leads_down (Own k p) (Own l q) = (k == l) && nat_lt p q

-- Only an arrow that leads down tells where events stand.
abbrev pub placing : Bool → List ℕ
placing down = if down then [] else codes ", constraint=false"

-- how the arrows of a relation look
abbrev pub look : Relation → List ℕ
look Po = codes "label=\" po \", weight=10"
look Rf = codes "label=\" rf \", color=\"red\", fontcolor=\"red\", style=dashed"
look Co = codes "label=\" co \", color=\"blue\", fontcolor=\"blue\", style=dotted"
look Fr = codes "label=\" fr \", color=\"darkgreen\", fontcolor=\"darkgreen\", style=dashed, arrowhead=empty"
look Rmw = codes "label=\" rmw \", color=\"purple\", fontcolor=\"purple\", style=bold"

-- an arrow between the events with these numbers
unfoldable pub arrow_line : SceneValue → List ℕ → ℕ → ℕ → List ℕ
arrow_line s shown i j = codes "  " ++ name_of s.graph i ++ codes " -> " ++ name_of s.graph j ++ codes " [" ++ shown ++ placing (leads_down (event_of s.graph i) (event_of s.graph j)) ++ codes "]\n"

-- a step of the evidence leads from i to j
abbrev pub is_step : ℕ → List Step → ℕ → ℕ → Bool
is_step last [] i j = false
is_step last (p ∷ ps) i j = ((last == i) && (p.to == j)) || is_step p.to ps i j

abbrev pub is_evidence : Option Chain → ℕ → ℕ → Bool
is_evidence None i j = false
is_evidence (Some c) i j = is_step c.first c.steps.items i j

-- an arrow of a relation, where no step of the evidence stands for it
unfoldable pub plain_line : SceneValue → Option Chain → Relation → Arrow → List ℕ
plain_line s c r a = if is_evidence c (number_of s.graph a.from) (number_of s.graph a.to) then [] else arrow_line s (look r) (number_of s.graph a.from) (number_of s.graph a.to)

abbrev pub plain_lines : SceneValue → Option Chain → Relation → List ℕ
plain_lines s c r = flat_map (plain_line s c r) (arrows_of s.graph r)

-- THE EVIDENCE

unfoldable pub bold_line : SceneValue → ℕ → List ℕ
bold_line s i = codes "  " ++ name_of s.graph i ++ codes " [penwidth=3]\n"

-- how the arrow of a step looks
abbrev pub step_look : Step → List ℕ
step_look p = codes "label=\" " ++ quoted (listed p.labels.items) ++ codes " \", penwidth=3"

-- a step from the event with this number, and the event that it leads to
unfoldable pub step_lines : SceneValue → ℕ → Step → List ℕ
step_lines s last p = bold_line s p.to ++ arrow_line s (step_look p) last p.to

abbrev pub steps_lines : SceneValue → ℕ → List Step → List ℕ
steps_lines s last [] = []
steps_lines s last (p ∷ ps) = step_lines s last p ++ steps_lines s p.to ps

abbrev pub evidence_lines : SceneValue → Option Chain → List ℕ
evidence_lines s None = []
evidence_lines s (Some c) = bold_line s c.first ++ steps_lines s c.first c.steps.items

-- THE WHOLE

unfoldable pub settings : List ℕ
settings = codes "digraph {\n  labelloc=t\n  newrank=true\n  nodesep=1.0\n  ranksep=0.5\n  fontname=\"Helvetica\"\n  node [shape=box, fontname=\"Helvetica\"]\n  edge [fontname=\"Helvetica\"]\n"

-- a further line of the title: the check that is broken
abbrev pub second_line : Option Broken → List ℕ
second_line None = []
second_line (Some b) = codes "\\nbreaks " ++ quoted b.check.now

unfoldable pub title_line : Drawing → List ℕ
title_line d = codes "  label=\"" ++ quoted (title d) ++ second_line d.broken ++ codes "\"\n"

unfoldable pub events_lines : SceneValue → List ℕ
events_lines s = initial_row s ++ flat_map (cluster s) (tabulate (length s.graph.runs) (λ k. k)) ++ below_lines s

unfoldable pub arrows_lines : SceneValue → Option Chain → List ℕ
arrows_lines s c = plain_lines s c Po ++ plain_lines s c Rf ++ plain_lines s c Co ++ plain_lines s c Fr ++ plain_lines s c Rmw ++ evidence_lines s c

abbrev pub chain_of : Option Broken → Option Chain
chain_of None = None
chain_of (Some b) = option_map (λ c. c.now) b.chain

-- The file.
unfoldable pub Dot : Drawing → List ℕ
Dot d = settings ++ title_line d ++ events_lines (scene_of d) ++ arrows_lines (scene_of d) (chain_of d.broken) ++ codes "}\n"
