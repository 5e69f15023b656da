-- How many bytes columns take at most, each with the separator before it.
use Rattle.std.specs.Prelude.{ℕ, ◌+◌, ◌*◌}
use Rattle.append.specs.Most.{decimal_most, identity_most, type_most, order_most}

abbrev pub number_column : ℕ
number_column = 1 + decimal_most

abbrev pub identity_column : ℕ
identity_column = 1 + identity_most

-- ---- The description of an array

-- The letter of an origin, straight after a field's text.
abbrev pub letter_most : ℕ
letter_most = 1

abbrev pub type_column : ℕ
type_column = 1 + type_most + letter_most

abbrev pub order_column : ℕ
order_column = 1 + order_most + letter_most

-- Type and order.
abbrev pub words_most : ℕ
words_most = type_column + order_column

-- Three Dims, without their letter.
abbrev pub dims_column : ℕ
dims_column = 3 * number_column

-- A number and its letter.
abbrev pub marked_number : ℕ
marked_number = number_column + letter_most

-- Configuration, orientation and offset.
abbrev pub numbers_most : ℕ
numbers_most = marked_number + marked_number + marked_number

abbrev pub array_most : ℕ
array_most = words_most + dims_column + letter_most + numbers_most

-- ---- An error

-- Code and position.
abbrev pub error_most : ℕ
error_most = number_column + number_column
