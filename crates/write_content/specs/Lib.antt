pub mod ContentTexts
