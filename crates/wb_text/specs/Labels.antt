-- What a printed refusal has for a fault of a text: its number and its name.
use Rattle.std.specs.Prelude.{ℕ, List, codes}
use Rattle.wb_text.specs.declared.fault.TextFault.{TextFault}
use Rattle.wb_text.specs.declared.fault.TextFault.TheVariants.{NotAscii, BadByte, OpenComment, OpenString, NumberTooBig, TooLong, NoMemory}

abbrev pub text_label : TextFault → List ℕ
text_label NotAscii = codes "1 NotAscii"
text_label BadByte = codes "2 BadByte"
text_label OpenComment = codes "3 OpenComment"
text_label OpenString = codes "4 OpenString"
text_label NumberTooBig = codes "5 NumberTooBig"
text_label TooLong = codes "6 TooLong"
text_label NoMemory = codes "NoMemory"
