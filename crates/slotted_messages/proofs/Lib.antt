-- Where the tokens begin that are left while a text is read.
pub mod Reading
pub mod Words
pub mod ParserTokens
pub mod Marks
