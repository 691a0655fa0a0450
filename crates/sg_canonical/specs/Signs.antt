-- Terms with signs.
--   signed_of s        what it stands for
--   turned_if turn s   with the other sign, where `turn` says so
use Rattle.std.specs.Prelude.{Bool, not, cond, map}
use Rattle.sg_expr.specs.Tree.{tree_of}
use Rattle.sg_spec.specs.Canonical.{Signed}
use Rattle.sg_canonical.specs.declared.signs.Signed.{Signed as Kept}

abbrev pub signed_of : Kept → Signed
signed_of s = record { minus = s.minus; numerator = tree_of s.numerator; uppers = map tree_of s.uppers; lowers = map tree_of s.lowers }

abbrev pub turned_if : Bool → Signed → Signed
turned_if turn s = record s { minus = cond turn (not s.minus) s.minus }
