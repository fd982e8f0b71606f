-- `put_words` writes the words of its rule, row by row of the table.
use Prim.Native.Nat.{ℕ}
use mathlib.Core.Path.{◌≡◌}
use mathlib.Core.Bool.{Bool}
use Rattle.numbered.proofs.Rest.{no_row}
use Rattle.characters.specs.Words.{spelled}
use Rattle.characters.specs.declared.Writer.{Writer}
use Rattle.characters.specs.Writing.{Room, Wrote}
use Rattle.characters.proofs.Texts.{wrote_none}
use Rattle.wording.specs.Wording.{sayings, words_of}
use Rattle.wording.proofs.put_words.Goals as goal

-- The words of a rule are those of its number: the table is not opened for that, and below only at one row
module _ {w : Writer} {rule n : ℕ} (which : ℕ) (round : Bool) (is : rule ≡ n) where
  room_of : Room w (words_of rule which round) → Room w (words_of n which round)
  room_of room = rw is at room

  wrote_of : {v : Writer} → Wrote w (words_of n which round) v → Wrote w (words_of rule which round) v
  wrote_of wrote = rw is wrote

pub word-requires : goal.word-requires
unfolding words_of sayings spelled
word-requires c = room_of _ _ c.in-5.is c.requires

pub word-requires-in-6 : goal.word-requires-in-6
unfolding words_of sayings spelled
word-requires-in-6 c = room_of _ _ c.in-6.is c.requires

pub put_by_shape-requires : goal.put_by_shape-requires
unfolding words_of sayings spelled
put_by_shape-requires c = room_of _ _ c.in-7.is c.requires

pub put_distance-requires : goal.put_distance-requires
put_distance-requires c = room_of _ _ c.in-8.is c.requires

pub put_points-requires : goal.put_points-requires
put_points-requires c = room_of _ _ c.in-9.is c.requires

pub word-requires-in-10 : goal.word-requires-in-10
unfolding words_of sayings spelled
word-requires-in-10 c = room_of _ _ c.in-10.is c.requires

pub word-requires-in-11 : goal.word-requires-in-11
unfolding words_of sayings spelled
word-requires-in-11 c = room_of _ _ c.in-11.is c.requires

pub word-requires-in-12 : goal.word-requires-in-12
unfolding words_of sayings spelled
word-requires-in-12 c = room_of _ _ c.in-12.is c.requires

pub word-requires-in-14 : goal.word-requires-in-14
unfolding words_of sayings spelled
word-requires-in-14 c = room_of _ _ c.in-14.is c.requires

pub word-requires-in-15 : goal.word-requires-in-15
unfolding words_of sayings spelled
word-requires-in-15 c = room_of _ _ c.in-15.is c.requires

pub word-requires-in-16 : goal.word-requires-in-16
unfolding words_of sayings spelled
word-requires-in-16 c = room_of _ _ c.in-16.is c.requires

pub word-requires-in-17 : goal.word-requires-in-17
unfolding words_of sayings spelled
word-requires-in-17 c = room_of _ _ c.in-17.is c.requires

pub word-requires-in-18 : goal.word-requires-in-18
unfolding words_of sayings spelled
word-requires-in-18 c = room_of _ _ c.in-18.is c.requires

pub word-requires-in-19 : goal.word-requires-in-19
unfolding words_of sayings spelled
word-requires-in-19 c = room_of _ _ c.in-19.is c.requires

pub word-requires-in-20 : goal.word-requires-in-20
unfolding words_of sayings spelled
word-requires-in-20 c = room_of _ _ c.in-20.is c.requires

pub returns-in-5 : goal.returns-in-5
unfolding words_of sayings spelled
returns-in-5 c = wrote_of _ _ c.in-5.is c.word.ensures

pub returns-in-6 : goal.returns-in-6
unfolding words_of sayings spelled
returns-in-6 c = wrote_of _ _ c.in-6.is c.word-in-6.ensures

pub returns-in-7 : goal.returns-in-7
unfolding words_of sayings spelled
returns-in-7 c = wrote_of _ _ c.in-7.is c.put_by_shape.ensures

pub returns-in-8 : goal.returns-in-8
returns-in-8 c = wrote_of _ _ c.in-8.is c.put_distance.ensures

pub returns-in-9 : goal.returns-in-9
returns-in-9 c = wrote_of _ _ c.in-9.is c.put_points.ensures

pub returns-in-10 : goal.returns-in-10
unfolding words_of sayings spelled
returns-in-10 c = wrote_of _ _ c.in-10.is c.word-in-10.ensures

pub returns-in-11 : goal.returns-in-11
unfolding words_of sayings spelled
returns-in-11 c = wrote_of _ _ c.in-11.is c.word-in-11.ensures

pub returns-in-12 : goal.returns-in-12
unfolding words_of sayings spelled
returns-in-12 c = wrote_of _ _ c.in-12.is c.word-in-12.ensures

pub returns-in-14 : goal.returns-in-14
unfolding words_of sayings spelled
returns-in-14 c = wrote_of _ _ c.in-14.is c.word-in-14.ensures

pub returns-in-15 : goal.returns-in-15
unfolding words_of sayings spelled
returns-in-15 c = wrote_of _ _ c.in-15.is c.word-in-15.ensures

pub returns-in-16 : goal.returns-in-16
unfolding words_of sayings spelled
returns-in-16 c = wrote_of _ _ c.in-16.is c.word-in-16.ensures

pub returns-in-17 : goal.returns-in-17
unfolding words_of sayings spelled
returns-in-17 c = wrote_of _ _ c.in-17.is c.word-in-17.ensures

pub returns-in-18 : goal.returns-in-18
unfolding words_of sayings spelled
returns-in-18 c = wrote_of _ _ c.in-18.is c.word-in-18.ensures

pub returns-in-19 : goal.returns-in-19
unfolding words_of sayings spelled
returns-in-19 c = wrote_of _ _ c.in-19.is c.word-in-19.ensures

pub returns-in-20 : goal.returns-in-20
unfolding words_of sayings spelled
returns-in-20 c = wrote_of _ _ c.in-20.is c.word-in-20.ensures

pub returns-in_default : goal.returns-in_default
unfolding words_of sayings
returns-in_default c =
    let subject = c.args.subject in
    rw (no_row _ (sayings c.args.which subject.round) subject.rule c.in_default.in_default-own.rest) (wrote_none _)
