-- What is told of an item of a list (RULES 1.7, 2.7): where it begins and its length, or its value;
-- or the table's number and nothing else.
use Rattle.refusal.specs.{Answer, accepted, refused, number_of}
use Rattle.wire.specs.{Number, Part}
use Rattle.norrabist_c.specs.declared.{lists.ItemTold.ItemTold, lists.NumberTold.NumberTold}

abbrev pub item_told : Answer Part → ItemTold
item_told (accepted p) = record { start = p.view.start; len = p.view.len; number = 0 }
item_told (refused r) = record { start = 0; len = 0; number = number_of r.reason }

abbrev pub number_told : Answer Number → NumberTold
number_told (accepted n) = record { value = n.value; number = 0 }
number_told (refused r) = record { value = 0; number = number_of r.reason }
