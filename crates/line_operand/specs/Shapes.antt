-- The places of fields in an instruction, which is one number: its first word, and 65,536 times its second one; and the shapes of operands. Assumes nothing.
use Rattle.std.specs.Prelude.{ℕ, ◌-◌, ◌/◌, ◌%◌, ◌^◌, Bool, false, ◌&&◌, ◌||◌, List, [], ◌∷◌, ltb}
use Rattle.choice.specs.Select.{select}
use Rattle.decode.specs.Operands.{RA, RB, BR, RX, N, N1, N12, NI, DSPL, LABEL8, ADDR, Z8, Z12}
use Rattle.line_operand.specs.declared.Place.{Place}
use Rattle.line_operand.specs.declared.Place.TheVariants.{Nowhere, Lower, Upper, Byte, Base, Top, Second}
use Rattle.line_operand.specs.declared.Kind.{Kind}
use Rattle.line_operand.specs.declared.Kind.TheVariants.{Register, Number, Label, Word, Index, Unread}
use Rattle.line_operand.specs.declared.Shape.{Shape}

-- ---- places: bits 12 to 15, 8 to 11, 8 to 15, 6 and 7, 0 to 5 of the first word, and the second word

-- the first bit of a place, and the one after its last, counted from the lowest bit of the number
abbrev pub low_bit : Place → ℕ
low_bit Nowhere = 0
low_bit Lower = 0
low_bit Upper = 4
low_bit Byte = 0
low_bit Base = 8
low_bit Top = 10
low_bit Second = 16

abbrev pub end_bit : Place → ℕ
end_bit Nowhere = 0
end_bit Lower = 4
end_bit Upper = 8
end_bit Byte = 8
end_bit Base = 10
end_bit Top = 16
end_bit Second = 32

-- what one is worth at a place
abbrev pub unit_of : Place → ℕ
unit_of p = 2 ^ low_bit p

-- how many numbers fit
abbrev pub count_of : Place → ℕ
count_of p = 2 ^ (end_bit p - low_bit p)

-- the number at a place of the instruction n
unfoldable pub field_of : Place → ℕ → ℕ
field_of p n = n / unit_of p % count_of p

-- whether two places have a bit in common
unfoldable pub meets : Place → Place → Bool
meets p q = ltb (low_bit p) (end_bit q) && ltb (low_bit q) (end_bit p)

-- whether one of the shapes has a bit of a place
unfoldable pub covers : List Shape → Place → Bool
covers [] q = false
covers (s ∷ ss) q = meets s.place q || covers ss q

-- ---- shapes

abbrev pub shape : Kind → Place → ℕ → Shape
shape k p low = record { kind = k; place = p; low = low }

-- the shape of each operand that the boxes show: how it is spelt, where it stands, and the number that its field holds as 0
unfoldable pub shapes : List (ℕ × Shape)
shapes =
    (RA, shape Register Upper 0) ∷
    (RB, shape Register Lower 0) ∷
    (BR, shape Register Base 12) ∷
    (RX, shape Index Lower 0) ∷
    (N, shape Number Upper 0) ∷
    (N1, shape Number Upper 1) ∷
    (N12, shape Number Lower 0) ∷
    (NI, shape Number Lower 1) ∷
    (DSPL, shape Number Byte 0) ∷
    (LABEL8, shape Label Byte 0) ∷
    (ADDR, shape Word Second 0) ∷
    (Z8, shape Unread Upper 0) ∷
    (Z12, shape Unread Lower 0) ∷
    []

unfoldable pub shape_of : ℕ → Shape
shape_of o = select o shapes (shape Unread Nowhere 0)
