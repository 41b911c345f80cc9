-- The characters that the code gathers, as those of the definitions.
use Rattle.base.specs.declared.name.parse.TextChar.{TextChar}
use Rattle.base.specs.declared.name.parse.TextChar.TheVariants.{Dot, Byte}
use Rattle.base.specs.texts.NameText.{Character, dot, byte}

-- the character that the code's is
abbrev pub character_of : TextChar → Character
character_of Dot = dot
character_of (Byte b) = byte b
