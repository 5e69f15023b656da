-- The definitions that the contracts of the calls on a block cite, of a block that two files share. The functions for C cite the same ones, so
-- that these laws are about their answers too.
-- ---- The same in both files: values, whole numbers, texts and real numbers of a keyword; the description with its origins; the array
-- delivered in any order, and every pixel
pub use Rattle.keyword.proofs.SharedValues.{value_shared, number_shared, text_shared}
pub use Rattle.independence.proofs.Descriptions.{real_shared, description_shared}
pub use Rattle.independence.proofs.Arrays.{delivered_shared, pixel_shared}
-- ---- With spans: moved with the block, those of the general header not; all of them where there is none; unmoved where the row is the same
pub use Rattle.keyword.proofs.SharedValues.{found_moved_from, found_moved, found-same}
pub use Rattle.independence.proofs.Arrays.{stored_moved, stored_same}
-- ---- Such blocks: of the first of two concatenated files, of the second, and one that is a file of its own
pub use Rattle.independence.proofs.Files.{first_shared, second_shared, alone_shared}
