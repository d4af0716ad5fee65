-- What `{}` prints of a reason: its name in the table of RULES 1.1.
use Rattle.refusal.specs.Words.{ℕ, List, codes}
use Rattle.refusal.specs.declared.Reason.{Reason}
use Rattle.refusal.specs.declared.Reason.TheVariants.{Incomplete, Complete, Verify, LengthValue, Tag, Switch, TooLarge, BadLength, NoRoom, NoSuch, NotYetImplemented}

abbrev pub name_of : Reason → List ℕ
name_of Incomplete = codes "Incomplete"
name_of Complete = codes "Complete"
name_of Verify = codes "Verify"
name_of LengthValue = codes "LengthValue"
name_of Tag = codes "Tag"
name_of Switch = codes "Switch"
name_of TooLarge = codes "TooLarge"
name_of BadLength = codes "BadLength"
name_of NoRoom = codes "NoRoom"
name_of NoSuch = codes "NoSuch"
name_of NotYetImplemented = codes "NotYetImplemented"
