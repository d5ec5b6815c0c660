-- Records, calls, arguments and results as bytes.
pub mod Record
pub mod Feeding
pub mod Rpc
pub mod RpcGrammar
pub mod WireTypes
pub mod WireArguments
pub mod WireAnswers
pub mod Results
