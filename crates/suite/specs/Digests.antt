-- Which texts a model is made of.
use Rattle.std.specs.Prelude.{ℕ, List, [], ◌∷◌, ◌++◌, take, codes}
use Rattle.std.specs.List.{flat_map}
use Rattle.hex.specs.Hex.{encode_lower}
use Rattle.sha2.specs.Sha256.{sha256}
use Rattle.suite.specs.declared.loading.CatText.{CatText}

-- a text's name, and the first eight bytes of its SHA-256 as hexadecimal digits
abbrev pub digest_text : CatText → List ℕ
digest_text t = t.name.now ++ codes "=" ++ encode_lower (take 8 (sha256 t.text.now))

-- with commas between
abbrev pub digests_text : List CatText → List ℕ
digests_text [] = []
digests_text (t ∷ ts) = digest_text t ++ flat_map (λ u. 44 ∷ digest_text u) ts
