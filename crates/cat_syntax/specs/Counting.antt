-- Counting nodes by their symbols. The limit does not rest on this file: proofs/ shows that it counts the nodes of the tree.
use Rattle.std.specs.Prelude.{ℕ, ◌+◌, ◌-◌, List, [], ◌∷◌, Bool, true, false, if◌then◌else◌}
use Rattle.std.proofs.Common.{zero, suc}
use Rattle.cat_syntax.specs.declared.counting.Context.{Context}
use Rattle.cat_syntax.specs.declared.counting.Context.TheVariants as contexts
use Rattle.cat_syntax.specs.declared.symbol.Symbol.{Symbol}
use Rattle.cat_syntax.specs.declared.symbol.Symbol.TheVariants.{Fixed, Name}
use Rattle.cat_syntax.specs.declared.symbol.Terminal.{Terminal}
use Rattle.cat_syntax.specs.declared.symbol.Terminal.TheVariants.{Let, Rec, And, Acyclic, Irreflexive, Empty, As, Flag, Show, Unshow, LeftParen, RightParen, RightBracket, RightBrace, Comma, Equals, Tilde}

abbrev pub is_check_word : Terminal → Bool
is_check_word Acyclic = true
is_check_word Irreflexive = true
is_check_word Empty = true
is_check_word t = false

-- a node where nothing before it says otherwise
abbrev pub is_node : Terminal → Bool
is_node Let = false
is_node Rec = false
is_node And = false
is_node As = false
is_node LeftParen = false
is_node RightParen = false
is_node RightBracket = false
is_node RightBrace = false
is_node Equals = false
is_node t = true

-- a name is a node here
abbrev pub counts_name : Context → Bool
counts_name contexts.Naming = false
counts_name contexts.Unshow = false
counts_name c = true

abbrev pub counts_tilde : Context → Bool
counts_tilde contexts.Flag = false
counts_tilde c = true

abbrev pub counts_word : Context → Bool
counts_word contexts.Flag = false
counts_word contexts.Tilde = false
counts_word c = true

-- a comma between parameters or arguments is none
abbrev pub counts_comma : (depth : ℕ) → Bool
counts_comma zero = true
counts_comma (suc n) = false

abbrev pub counts_terminal : Context → (depth : ℕ) → Terminal → Bool
counts_terminal c n Tilde = counts_tilde c
counts_terminal c n Comma = counts_comma n
counts_terminal c n t = if is_check_word t then counts_word c else is_node t

-- how many nodes a symbol is, where so many parentheses are open
unfoldable pub cost : Context → (depth : ℕ) → Symbol → ℕ
cost c n (Name x) = if counts_name c then 1 else 0
cost c n (Fixed t) = if counts_terminal c n t then 1 else 0
cost c n s = 0

-- a symbol that counts for the node behind it
abbrev pub announces_node : Symbol → Bool
announces_node (Fixed Show) = true
announces_node (Fixed Unshow) = true
announces_node (Fixed Comma) = true
announces_node s = false

abbrev pub after_name : Context → Context
after_name contexts.Unshow = contexts.Unshow
after_name c = contexts.Plain

abbrev pub after_terminal : Context → Terminal → Context
after_terminal c As = contexts.Naming
after_terminal c Flag = contexts.Flag
after_terminal c Tilde = contexts.Tilde
after_terminal c Unshow = contexts.Unshow
after_terminal c Comma = after_name c
after_terminal c t = contexts.Plain

unfoldable pub context_after : Context → Symbol → Context
context_after c (Name x) = after_name c
context_after c (Fixed t) = after_terminal c t
context_after c s = contexts.Plain

-- how many parentheses are open behind a symbol
unfoldable pub depth_after : (depth : ℕ) → Symbol → ℕ
depth_after n (Fixed LeftParen) = n + 1
depth_after n (Fixed RightParen) = n - 1
depth_after n s = n

-- how many nodes the symbols are
unfoldable pub weight : Context → (depth : ℕ) → List Symbol → ℕ
weight c n [] = 0
weight c n (s ∷ ss) = cost c n s + weight (context_after c s) (depth_after n s) ss
