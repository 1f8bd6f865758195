-- A cat text is refused for one reason.
use Rattle.std.proofs.Common.{◌≡◌, ◌≢◌, ◌<◌, ◌≤◌, ℕ, List, drop, length, refl, sym, ap, subst, ◌∙◌, arith}
use Rattle.std.specs.Prelude.{Some, None}
use Rattle.wb_text.specs.declared.token.Token.{Token}
use Rattle.wb_text.proofs.Lists.{list_once}
use Rattle.wb_text.proofs.OneFault.{no_cause}
use Rattle.cat_syntax.specs.declared.fault.CatFault.{CatFault}
use Rattle.cat_syntax.specs.declared.fault.CatFault.TheVariants.{Text, Syntax, Unsupported, TooDeep, TooLarge, NoMemory}
use Rattle.cat_syntax.specs.declared.syntax_fault.SyntaxFault.{SyntaxFault}
use Rattle.cat_syntax.specs.declared.syntax_fault.SyntaxFault.TheVariants as faults
use Rattle.cat_syntax.specs.declared.symbol.Symbol.{Symbol}
use Rattle.cat_syntax.specs.Reads.{Reads, left_out, IsWrong, Tells, SpellsNone, IsRefused}
use Rattle.cat_syntax.specs.Stops.{FaultAt, GrowsTooLarge}
use Rattle.cat_syntax.specs.Symbols.{symbols_of}
use Rattle.cat_syntax.proofs.Places.{one_stop}
use Rattle.cat_tree.specs.Tree.{File}
use Rattle.cat_places.specs.Fronts.{HasNoPlace, leaves_out, too_deep, too_large}

-- what a 52 tells is no word that is left out
wrong_known : (c : SyntaxFault) (rest : List Symbol) (w : List ℕ) → IsWrong c rest → left_out c rest ≡ Some w → ⊥
wrong_known faults.Unexpected rest w h e = let none : left_out faults.Unexpected rest ≡ None = h in cc
wrong_known faults.BoundTwice rest w h e = let none : left_out faults.BoundTwice rest ≡ None = h in cc
wrong_known faults.RecursiveFunction rest w h e = let none : left_out faults.RecursiveFunction rest ≡ None = h in cc
wrong_known faults.TooDeep rest w h e = h
wrong_known faults.NoMemory rest w h e = h

deep_none : (rest : List Symbol) (w : List ℕ) → left_out faults.TooDeep rest ≡ Some w → ⊥
deep_none rest w e = let none : left_out faults.TooDeep rest ≡ None = refl in cc

-- reading stops before a node too many begins, or it doesn't
large_none : (ss : List Symbol) (c : SyntaxFault) (k : ℕ) → FaultAt ss c k → GrowsTooLarge ss → ⊥
large_none ss c k f g = let low : k ≤ g.place = f.within g.place g.excess in let high : g.place < k = g.first c k f.stops in omega (arith, low, high)

told_once : (ss : List Symbol) (tokens : List Token) (end : ℕ) (e f : CatFault) → HasNoPlace f → e ≢ NoMemory → Tells e ss tokens end → Tells f ss tokens end → e ≡ f
told_once ss ts end (Text g) f p m h k = absurd h
told_once ss ts end NoMemory f p m h k = absurd (m refl)
told_once ss ts end (Syntax n) (Unsupported w) leaves_out m h k =
    let same = one_stop ss h.cause k.cause h.place k.place h.fault.stops k.fault.stops in
    absurd (wrong_known k.cause (drop k.place ss) w (subst (λ (c : SyntaxFault). IsWrong c (drop k.place ss)) same.0 (subst (λ (p : ℕ). IsWrong h.cause (drop p ss)) same.1 h.wrong)) k.word)
told_once ss ts end (Syntax n) TooDeep too_deep m h k =
    let same = one_stop ss h.cause faults.TooDeep h.place k.0 h.fault.stops k.1.stops in
    absurd (subst (λ (c : SyntaxFault). IsWrong c (drop h.place ss)) same.0 h.wrong)
told_once ss ts end (Syntax n) TooLarge too_large m h k = absurd (large_none ss h.cause h.place h.fault k.1)
told_once ss ts end (Unsupported v) (Unsupported w) leaves_out m h k =
    let same = one_stop ss h.cause k.cause h.place k.place h.fault.stops k.fault.stops in
    let both : Some v ≡ Some w = sym h.word ∙ ap (λ (p : ℕ). left_out h.cause (drop p ss)) same.1 ∙ ap (λ (c : SyntaxFault). left_out c (drop k.place ss)) same.0 ∙ k.word in
    let words : v ≡ w = cc in ap Unsupported words
told_once ss ts end (Unsupported v) TooDeep too_deep m h k =
    let same = one_stop ss h.cause faults.TooDeep h.place k.0 h.fault.stops k.1.stops in
    absurd (deep_none (drop h.place ss) v (subst (λ (c : SyntaxFault). left_out c (drop h.place ss) ≡ Some v) same.0 h.word))
told_once ss ts end (Unsupported v) TooLarge too_large m h k = absurd (large_none ss h.cause h.place h.fault k.1)
told_once ss ts end TooDeep (Unsupported w) leaves_out m h k =
    let same = one_stop ss k.cause faults.TooDeep k.place h.0 k.fault.stops h.1.stops in
    absurd (deep_none (drop k.place ss) w (subst (λ (c : SyntaxFault). left_out c (drop k.place ss) ≡ Some w) same.0 k.word))
told_once ss ts end TooDeep TooDeep too_deep m h k = refl
told_once ss ts end TooDeep TooLarge too_large m h k = absurd (large_none ss faults.TooDeep h.0 h.1 k.1)
told_once ss ts end TooLarge (Unsupported w) leaves_out m h k = absurd (large_none ss k.cause k.place k.fault h.1)
told_once ss ts end TooLarge TooDeep too_deep m h k = absurd (large_none ss faults.TooDeep k.0 k.1 h.1)
told_once ss ts end TooLarge TooLarge too_large m h k = refl
told_once ss ts end (Syntax n) (Text g) p m h k = elim p [ ]
told_once ss ts end (Syntax n) (Syntax i) p m h k = elim p [ ]
told_once ss ts end (Syntax n) NoMemory p m h k = elim p [ ]
told_once ss ts end (Unsupported v) (Text g) p m h k = elim p [ ]
told_once ss ts end (Unsupported v) (Syntax i) p m h k = elim p [ ]
told_once ss ts end (Unsupported v) NoMemory p m h k = elim p [ ]
told_once ss ts end TooDeep (Text g) p m h k = elim p [ ]
told_once ss ts end TooDeep (Syntax i) p m h k = elim p [ ]
told_once ss ts end TooDeep NoMemory p m h k = elim p [ ]
told_once ss ts end TooLarge (Text g) p m h k = elim p [ ]
told_once ss ts end TooLarge (Syntax i) p m h k = elim p [ ]
told_once ss ts end TooLarge NoMemory p m h k = elim p [ ]

spelled_none : (text : List ℕ) (f : CatFault) → HasNoPlace f → IsRefused text f → SpellsNone text f
spelled_none text (Unsupported w) leaves_out h = h
spelled_none text TooDeep too_deep h = h
spelled_none text TooLarge too_large h = h
spelled_none text (Text g) p h = elim p [ ]
spelled_none text (Syntax n) p h = elim p [ ]
spelled_none text NoMemory p h = elim p [ ]

both_none : (text : List ℕ) (e f : CatFault) → HasNoPlace f → e ≢ NoMemory → SpellsNone text e → SpellsNone text f → e ≡ f
both_none text e f p m h k =
    let same : k.tokens ≡ h.tokens = list_once h.is_list k.is_list in
    told_once (symbols_of text h.tokens) h.tokens (length text) e f p m h.reported (subst (λ (ts : List Token). Tells f (symbols_of text ts) ts (length text)) same k.reported)

-- of two refusals of a text, the second is the first
pub refused_once : (text : List ℕ) (e f : CatFault) → HasNoPlace f → e ≢ NoMemory → IsRefused text e → IsRefused text f → e ≡ f
refused_once text NoMemory f p m h k = absurd (m refl)
refused_once text (Text g) f p m h k = let none = spelled_none text f p k in absurd (no_cause none.is_list.short h.0 h.1 none.is_list)
refused_once text (Syntax n) f p m h k = both_none text (Syntax n) f p m h (spelled_none text f p k)
refused_once text (Unsupported w) f p m h k = both_none text (Unsupported w) f p m h (spelled_none text f p k)
refused_once text TooDeep f p m h k = both_none text TooDeep f p m h (spelled_none text f p k)
refused_once text TooLarge f p m h k = both_none text TooLarge f p m h (spelled_none text f p k)

-- what is a model isn't refused
pub read_none : (text : List ℕ) (t : File) (f : CatFault) → HasNoPlace f → Reads text t → ¬ IsRefused text f
read_none text t f p r h = (spelled_none text f p h).none t r
