-- Text as bytes.
use Rattle.std.specs.Prelude.{ℕ, List, [], ◌∷◌}
use Prim.Native.Char.{code}
use Prim.Native.String.{String, [] as none, ◌∷◌ as more}

-- The bytes of quoted ASCII.
abbrev pub ascii : (text : String) → List ℕ
ascii none = []
ascii (more c cs) = code c ∷ ascii cs
