-- How many bytes each piece of text takes at most.
use Rattle.std.specs.Prelude.{ℕ, ◌+◌}

-- A number of 64 bits in shortest decimal form, with its sign.
abbrev pub decimal_most : ℕ
decimal_most = 20

-- `Psd` or `Error`.
abbrev pub instance_most : ℕ
instance_most = 5

-- A point and a number.
abbrev pub memory_most : ℕ
memory_most = 1 + decimal_most

-- A number, `.Image.`, the instance and the memory.
abbrev pub identity_most : ℕ
identity_most = decimal_most + 7 + instance_most + memory_most

-- The longest word of a type, `UnsignedInteger`,
abbrev pub type_most : ℕ
type_most = 15

-- and of a byte order, `HighByteFirst`.
abbrev pub order_most : ℕ
order_most = 13
