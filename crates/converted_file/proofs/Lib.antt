mod ConvertedLemmas
mod JoinedLemmas
mod PlainLines
mod PlainText
mod PlainWords
mod TakenFields
mod TakenKinds
mod TakenRecords
