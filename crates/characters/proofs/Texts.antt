-- Texts written one after another.
use Prim.Native.Nat.{ℕ, zero, suc, ◌+◌, ◌*◌, ◌/◌, ◌%◌, ◌^◌, ◌-◌, ◌≤◌, ◌<◌}
use mathlib.Core.Path.{◌≡◌, refl, sym, ◌∙◌, subst}
use mathlib.Core.Bool.{Bool, true, false, cond}
use mathlib.Core.List.{List, [], ◌∷◌, ◌++◌}
use mathlib.Core.Logic.{◌⊎◌, inl, inr}
use native.Mathlib.Omega.{arith}
use borrow.Rule.Slice.PartMut.{put_mid}
use Rattle.std.proofs.lemmas.Grind.{common_steps}
use lib.ListN.{length, take, drop, length-append}
use lib.Seq.{take_at}
use native.Mathlib.Nat.{eq-or-lt_of_le, le_antisymm, le_of_suc-le-suc, lt-suc_self, lt_trans}
use native.Mathlib.Numerals.{add-one}
use Rattle.output.specs.Splice.{spliced}
use Rattle.output.proofs.Splice.{spliced_none, spliced_more}
use Rattle.characters.specs.Numbers.{decimal}
use Rattle.output.specs.Bytes.{joined}
use Rattle.characters.specs.declared.Writer.{Writer}
use Rattle.characters.specs.Writing.{Room, Wrote, RoomFor, WroteFront}
use Rattle.characters.proofs.Decimals.{decimal_many}

-- nothing written yet
pub wrote_none : (w : Writer) → Wrote w [] w
wrote_none w = record { is = spliced_none w.out.now w.at; after = omega arith; kept = refl; same = refl }

-- a text after a text
pub wrote_more : {w v u : Writer} {a b : List ℕ} → Wrote w a v → Wrote v b u → Room w (a ++ b) → Wrote w (a ++ b) u
wrote_more {w} {v} {u} {a} {b} f g room =
    let sum : length (a ++ b) ≡ length a + length b = length-append a b in
    let fits : w.at + length a + length b ≤ length w.out.now = omega (arith, room.fits) in
    record {
      is = g.is ∙ rw (f.is, f.after) (spliced_more w.out.now w.at a b fits);
      after = omega (arith, f.after, g.after);
      kept = g.kept ∙ f.kept;
      same = g.same ∙ f.same;
    }

-- the leading digits and the last one
pub decimal_parts : (n : ℕ) → 10 ≤ n → n < 2 ^ 64 → decimal n ≡ decimal (n / 10) ++ ((48 + n % 10) ∷ [])
decimal_parts n many fits = decimal_many n many (omega arith)

-- what is laid over the bytes of its length is spliced in
pub laid_over : (old : List ℕ) (at : ℕ) {word mid : List ℕ} → at + length word ≤ length old → mid ≡ word → put_mid at (at + length word - at) old mid ≡ spliced old at word
unfolding spliced
laid_over old at {word} fits e =
    let size : at + length word - at ≡ length word = omega arith in
    rw e (grind (arith, common_steps, size))

-- a writer at the front of a buffer has its room, and what it wrote stands at the front of that buffer
pub room_at_front : {w : Writer} {text : List ℕ} → RoomFor w.out.now text → w.at ≡ 0 → Room w text
room_at_front room e = record { fits = omega (arith, e, room.fits) }

pub wrote_front : {w v : Writer} {text : List ℕ} → Wrote w text v → w.at ≡ 0 → WroteFront w.out.now text v.out.now v.at
wrote_front f e = record { is = rw (← e) f.is; long = omega (arith, e, f.after); kept = f.kept }

-- and so it stands at the front of a buffer that is left as the writer's is
pub left_in_front : {w v : Writer} {text out : List ℕ} → Wrote w text v → w.at ≡ 0 → out ≡ v.out.now → WroteFront w.out.now text out v.at
left_in_front f e same = rw same (wrote_front f e)

-- a text at the front of a buffer is the buffer's front, and lies within it
pub taken_front : {old text out : List ℕ} {n : ℕ} → WroteFront old text out n → take n out ≡ text
unfolding spliced
taken_front {old} {text} {n = n} w = rw w.is (take_at text (drop (0 + length text) old) n (sym w.long))

pub within_front : {old text out : List ℕ} {n : ℕ} → WroteFront old text out n → length text ≤ length old → n ≤ length out
within_front w room = omega (arith, w.long, w.kept)

-- of a text after a text: room for the first, and behind it room for the second
pub room_front : {w : Writer} (a b : List ℕ) → Room w (a ++ b) → Room w a
room_front a b h = record { fits = omega (arith, length-append a b, h.fits) }

pub room_behind : {w v : Writer} {a : List ℕ} (b : List ℕ) → Wrote w a v → Room w (a ++ b) → Room v b
room_behind {a = a} b w h = record { fits = omega (arith, length-append a b, h.fits, w.after, w.kept) }

-- four texts, one after another: room for each behind those before it, and all of them written
module _ {w : Writer} (a b c d : List ℕ) (room : Room w (a ++ b ++ c ++ d)) where
  three : Room w (a ++ b ++ c)
  three = room_front (a ++ b ++ c) d room

  two : Room w (a ++ b)
  two = room_front (a ++ b) c three

  pub room_first : Room w a
  room_first = room_front a b two

  module _ {w₁ : Writer} (f : Wrote w a w₁) where
    pub room_second : Room w₁ b
    room_second = room_behind b f two

    module _ {w₂ : Writer} (g : Wrote w₁ b w₂) where
      pub room_third : Room w₂ c
      room_third = room_behind c (wrote_more f g two) three

      module _ {w₃ : Writer} (h : Wrote w₂ c w₃) where
        pub room_fourth : Room w₃ d
        room_fourth = room_behind d (wrote_more (wrote_more f g two) h three) room

        pub wrote_four : {w₄ : Writer} → Wrote w₃ d w₄ → Wrote w (a ++ b ++ c ++ d) w₄
        wrote_four x = wrote_more (wrote_more (wrote_more f g two) h three) x room

-- and a fifth
module _ {w : Writer} (a b c d e : List ℕ) (room : Room w (a ++ b ++ c ++ d ++ e)) where
  four : Room w (a ++ b ++ c ++ d)
  four = room_front (a ++ b ++ c ++ d) e room

  module _ {w₁ w₂ w₃ w₄ : Writer} (f : Wrote w a w₁) (g : Wrote w₁ b w₂) (h : Wrote w₂ c w₃) (x : Wrote w₃ d w₄) where
    pub room_fifth : Room w₄ e
    room_fifth = room_behind e (wrote_four a b c d four f g h x) room

    pub wrote_five : {w₅ : Writer} → Wrote w₄ e w₅ → Wrote w (a ++ b ++ c ++ d ++ e) w₅
    wrote_five y = wrote_more (wrote_four a b c d four f g h x) y room

-- of two texts, whichever it is
pub either_short : (test : Bool) (a b : List ℕ) (n : ℕ) → length a ≤ n → length b ≤ n → length (cond test a b) ≤ n
either_short true a b n h k = h
either_short false a b n h k = k

-- Texts one after another

joined_length : (text : ℕ → List ℕ) (n : ℕ) → length (joined text (suc n)) ≡ length (joined text n) + length (text n)
unfolding joined
joined_length text n = length-append (joined text n) (text n)

-- the first of them are no longer than all
joined_grows : (text : ℕ → List ℕ) (i n : ℕ) → i ≤ n → length (joined text i) ≤ length (joined text n)
joined_grows text i zero h = let none : i ≡ 0 = omega arith in rw none (omega arith)
joined_grows text i (suc n) h = go (λ fewer. joined_grows text i n fewer) (eq-or-lt_of_le h)
  where
    go : (i ≤ n → length (joined text i) ≤ length (joined text n)) → (i ≡ suc n) ⊎ (i < suc n) → length (joined text i) ≤ length (joined text (suc n))
    go earlier (inl e) = rw e (omega arith)
    go earlier (inr less) = omega (arith, joined_length text n, earlier (le_of_suc-le-suc less))

-- each of them is at most so long
pub joined_short : (text : ℕ → List ℕ) (n most : ℕ) → ((i : ℕ) → i < n → length (text i) ≤ most) → length (joined text n) ≤ n * most
unfolding joined
joined_short text zero most each = omega arith
joined_short text (suc n) most each =
    let rest = joined_short text n most (λ i inside. each i (lt_trans inside (lt-suc_self n))) in
    omega (arith, joined_length text n, rest, each n (lt-suc_self n))

pub joined_none : (text : ℕ → List ℕ) (w : Writer) → Wrote w (joined text 0) w
unfolding joined
joined_none text w = wrote_none w

-- the last is written
pub joined_all : (text : ℕ → List ℕ) {n i : ℕ} {w v : Writer} → Wrote w (joined text i) v → i ≤ n → n ≤ i → Wrote w (joined text n) v
joined_all text {n} {i} {w} {v} f past end = subst (λ m. Wrote w (joined text m) v) (le_antisymm past end) f

-- i of n are written, and there is room for all: room for the next one, and the next one written
module _ (text : ℕ → List ℕ) {n i : ℕ} {w v : Writer} (f : Wrote w (joined text i) v) (room : Room w (joined text n)) (inside : i < n) where
  pub joined_room : Room v (text i)
  joined_room = record { fits = omega (arith, room.fits, joined_length text i, joined_grows text (suc i) n inside, f.after, f.kept) }

  pub joined_more : {u : Writer} → Wrote v (text i) u → Wrote w (joined text (i + 1)) u
  unfolding joined
  joined_more g = rw (add-one i) (wrote_more f g (record { fits = omega (arith, room.fits, joined_grows text (suc i) n inside) }))
